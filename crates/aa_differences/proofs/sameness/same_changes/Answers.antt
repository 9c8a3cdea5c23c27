use Rattle.std.proofs.Common.{arith}
use Rattle.aa_differences.specs.Sameness.{SameChange}
use Rattle.aa_differences.proofs.Zipped.{zipped_next}
use Rattle.aa_differences.proofs.sameness.same_changes.Goals as goal

pub loop-number-preserved : goal.loop-number-preserved
loop-number-preserved c =
    zipped_next SameChange c.args.one.now c.args.other.now c.loop-number.number c.index-one-number.result c.index-other-number.result c.loop-number-test.true (omega arith) c.index-one-number.is c.index-other-number.is
    (c.same_change.ensures c.if-not-same_change.false) c.loop-number.invariant
