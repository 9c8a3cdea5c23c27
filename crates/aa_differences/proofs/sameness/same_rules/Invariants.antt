use Rattle.std.proofs.Common.{take}
use Rattle.std.specs.List.{AllZip}
use Rattle.aa_differences.specs.Sameness.{SameRule}
use Rattle.aa_differences.proofs.sameness.same_rules.Given as goal

abbrev pub invariant-loop-number : goal.invariant-loop-number
invariant-loop-number l = AllZip SameRule (take l.number l.one) (take l.number l.other)
