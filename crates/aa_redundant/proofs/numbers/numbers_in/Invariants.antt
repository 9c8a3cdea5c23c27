use Rattle.std.proofs.Common.{◌≡◌, map, take}
use Rattle.aa_redundant.specs.Places.{number_in}
use Rattle.aa_redundant.proofs.numbers.numbers_in.Given as goal

abbrev pub invariant-loop-at : goal.invariant-loop-at
invariant-loop-at l = l.numbers.items ≡ map (number_in l.units l.known.places.items l.unit) (take l.at-index l.spots)
