use Rattle.std.proofs.Common.{take}
use Rattle.std.specs.List.{AllZip}
use Rattle.aa_differences.specs.Sameness.{SamePattern}
use Rattle.aa_differences.proofs.patterns.same_patterns.Given as goal

abbrev pub invariant-loop-number : goal.invariant-loop-number
invariant-loop-number l = AllZip SamePattern (take l.number l.one) (take l.number l.other)
