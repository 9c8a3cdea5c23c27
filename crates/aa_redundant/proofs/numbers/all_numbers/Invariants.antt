use Rattle.std.proofs.Common.{◌≡◌}
use Rattle.aa_redundant.specs.Places.{first_numbers}
use Rattle.aa_redundant.proofs.numbers.all_numbers.Given as goal

abbrev pub invariant-loop-number : goal.invariant-loop-number
invariant-loop-number l = l.numbers.items ≡ first_numbers l.decided l.known.places.items l.number
