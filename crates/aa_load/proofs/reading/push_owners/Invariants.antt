use Rattle.std.proofs.Common.{◌≡◌, ◌++◌, map, take}
use Rattle.aa_explain.specs.Places.{places_data}
use Rattle.aa_load.proofs.reading.push_owners.Given as goal

abbrev pub invariant-loop-place : goal.invariant-loop-place
invariant-loop-place l = l.owners.items ≡ l.initial.owners.items ++ map (λ _. l.number) (map places_data (take l._place-index l.places))
