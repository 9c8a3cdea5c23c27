use Rattle.std.proofs.Common.{take}
use Rattle.std.specs.List.{AllZip}
use Rattle.aa_differences.specs.Sameness.{SameChange}
use Rattle.aa_differences.proofs.sameness.same_changes.Given as goal

abbrev pub invariant-loop-number : goal.invariant-loop-number
invariant-loop-number l = AllZip SameChange (take l.number l.one) (take l.number l.other)
