use Rattle.std.proofs.Common.{arith}
use Rattle.aa_text.proofs.Cuts.{rest_stops, rest_goes, rest_ends}
use Rattle.aa_text.proofs.cut.behind_rest.Goals as goal

pub returns-then-not-continues : goal.returns-then-not-continues
returns-then-not-continues c = rest_stops c.args.bytes.now c.loop-rest.rest.now c.continues.result (omega arith) c.continues.ensures c.if-not-continues.true c.loop-rest.invariant

pub loop-rest-preserved : goal.loop-rest-preserved
loop-rest-preserved c = rest_goes c.args.bytes.now c.loop-rest.rest.now c.continues.result (omega arith) c.continues.ensures c.if-not-continues.false c.loop-rest.invariant

pub returns : goal.returns
returns c = rest_ends c.args.bytes.now c.loop-rest.rest.now c.in_default.len_below c.loop-rest.invariant
