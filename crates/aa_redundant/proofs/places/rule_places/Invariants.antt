use Rattle.std.proofs.Common.{◌≡◌}
use Rattle.aa_redundant.specs.Places.{first_places}
use Rattle.aa_redundant.proofs.places.rule_places.Given as goal

abbrev pub invariant-loop-number : goal.invariant-loop-number
invariant-loop-number l = l.places.items ≡ first_places l.decided l.number
