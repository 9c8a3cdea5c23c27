use Rattle.std.proofs.Common.{sym}
use Rattle.aa_representatives.proofs.said.is_met.Goals as goal

pub returns-then-is_of : goal.returns-then-is_of
returns-then-is_of c = λ _.
    let same = c.is_of.ensures c.if-is_of.true in
    (c.class-item.result, (c.loop-class.class-index, c.loop-class-test.true, sym c.class-item.is), same.0, same.1)
