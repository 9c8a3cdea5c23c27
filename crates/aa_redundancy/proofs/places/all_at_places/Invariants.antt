use Rattle.std.proofs.Common.{◌≡◌, map, take}
use Rattle.aa_redundancy.specs.Places.{at_place}
use Rattle.aa_redundancy.proofs.places.all_at_places.Given as goal

abbrev pub invariant-loop-mark : goal.invariant-loop-mark
invariant-loop-mark l = l.placed.items ≡ map (at_place l.numbers) (take l.mark-index l.marks)
