use Rattle.std.proofs.Common.{◌≡◌}
use Rattle.aa_text.specs.Places.{place_in}
use Rattle.aa_text.proofs.placed.place_from.Given as goal

abbrev pub invariant-loop-at : goal.invariant-loop-at
invariant-loop-at l = l.behind ≡ place_in l.text l.at
