use Rattle.std.proofs.Common.{take}
use Rattle.std.specs.List.{AllZip}
use Rattle.aa_differences.specs.Sameness.{SameHead}
use Rattle.aa_differences.proofs.sameness.same_profiles.Given as goal

abbrev pub invariant-loop-number : goal.invariant-loop-number
invariant-loop-number l = AllZip SameHead (take l.number l.one) (take l.number l.other)
