use Rattle.aa_differences.specs.Sameness.{SameValue}
use Rattle.aa_differences.proofs.Zipped.{zipped_or}
use Rattle.aa_differences.proofs.sameness.same_caps.Goals as goal

pub loop-number-preserved : goal.loop-number-preserved
loop-number-preserved c =
    zipped_or SameValue c.args.one.now c.args.other.now c.loop-number.number _ c.loop-number-test.true c.if-one-other.false (c.same_cap.ensures c.if-not-same_cap.false) c.loop-number.invariant
