use Rattle.std.proofs.Common.{arith}
use Rattle.aa_words.proofs.Forms.{name_stops, name_goes, name_ends}
use Rattle.aa_words.proofs.includes.from_closing_sign.Goals as goal

pub returns-then-include_name_ends : goal.returns-then-include_name_ends
returns-then-include_name_ends c = name_stops c.args.sign c.args.text.now c.loop-rest.rest.now c.include_name_ends.result (omega arith) c.include_name_ends.ensures c.if-include_name_ends.true c.loop-rest.invariant

pub loop-rest-preserved : goal.loop-rest-preserved
loop-rest-preserved c = name_goes c.args.sign c.args.text.now c.loop-rest.rest.now c.include_name_ends.result (omega arith) c.include_name_ends.ensures c.if-include_name_ends.false c.loop-rest.invariant

pub returns : goal.returns
returns c = name_ends c.args.sign c.args.text.now c.loop-rest.rest.now c.in_default.len_below c.loop-rest.invariant
