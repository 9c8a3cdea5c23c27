use Rattle.std.proofs.Common.{arith}
use Rattle.aa_words.proofs.Forms.{white_stops, white_goes, white_ends}
use Rattle.aa_words.proofs.includes.behind_white_space.Goals as goal

pub returns-then-not-is_white_space : goal.returns-then-not-is_white_space
returns-then-not-is_white_space c = white_stops c.args.text.now c.loop-rest.rest.now c.is_white_space.result (omega arith) c.is_white_space.ensures c.if-not-is_white_space.true c.loop-rest.invariant

pub loop-rest-preserved : goal.loop-rest-preserved
loop-rest-preserved c = white_goes c.args.text.now c.loop-rest.rest.now c.is_white_space.result (omega arith) c.is_white_space.ensures c.if-not-is_white_space.false c.loop-rest.invariant

pub returns : goal.returns
returns c = white_ends c.args.text.now c.loop-rest.rest.now c.in_default.len_below c.loop-rest.invariant
