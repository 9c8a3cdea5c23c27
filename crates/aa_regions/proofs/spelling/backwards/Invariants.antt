use Rattle.std.proofs.Common.{◌≡◌, ◌<◌, ◌++◌, ℕ, List, length, reverse}
use Rattle.aa_regions.specs.Steps.{text_at, AreSpelled}
use Rattle.aa_regions.proofs.spelling.backwards.Given as goal

abbrev pub invariant-loop-at : goal.invariant-loop-at
invariant-loop-at l = record {
  within : l.at < length l.steps;
  text : (head : List ℕ) (texts : List (List ℕ)) → AreSpelled head l.steps texts
      → text_at texts l.number ≡ text_at texts l.at ++ reverse l.back.items;
}

abbrev pub decreases-loop-at : goal.decreases-loop-at
decreases-loop-at l = l.at
