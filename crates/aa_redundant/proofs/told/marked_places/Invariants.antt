use Rattle.std.proofs.Common.{◌≡◌, ◌++◌, drop, not}
use Rattle.aa_redundancy.specs.Without.{without_from, marked}
use Rattle.aa_redundant.specs.Told.{marked_places}
use Rattle.aa_redundant.proofs.told.marked_places.Given as goal

abbrev pub invariant-loop-number : goal.invariant-loop-number
invariant-loop-number l = l.found.items ++ without_from (λ n. not (marked l.flags n)) l.number (drop l.number l.places) ≡ marked_places l.flags l.places
