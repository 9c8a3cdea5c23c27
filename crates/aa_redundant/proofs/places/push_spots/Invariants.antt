use Rattle.std.proofs.Common.{◌≡◌, ◌++◌, map, take}
use Rattle.aa_redundant.specs.Places.{place_in}
use Rattle.aa_redundant.proofs.places.push_spots.Given as goal

abbrev pub invariant-loop-at : goal.invariant-loop-at
invariant-loop-at l = l.places.items ≡ l.fn.places.items ++ map (place_in l.unit) (take l.at-index l.spots)
