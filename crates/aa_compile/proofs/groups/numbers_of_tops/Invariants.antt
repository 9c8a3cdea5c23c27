use Rattle.std.proofs.Common.{◌≡◌, ◌++◌, drop, None}
use Rattle.aa_compile.specs.Attached.{numbers_below}
use Rattle.aa_compile.proofs.groups.numbers_of_tops.Given as goal

abbrev pub invariant-loop-number : goal.invariant-loop-number
invariant-loop-number l = l.numbers.items ++ numbers_below None l.number (drop l.number l.profiles) ≡ numbers_below None 0 l.profiles
