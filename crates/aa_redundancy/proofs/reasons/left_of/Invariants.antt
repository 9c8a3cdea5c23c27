use Rattle.std.proofs.Common.{◌≡◌, take, not}
use Rattle.std.specs.List.{filter}
use Rattle.aa_redundancy.specs.Without.{marked}
use Rattle.aa_redundancy.proofs.reasons.left_of.Given as goal

abbrev pub invariant-loop-place : goal.invariant-loop-place
invariant-loop-place l = l.places.items ≡ filter (λ n. not (marked l.gone n)) (take l.place-index l.place-items)
