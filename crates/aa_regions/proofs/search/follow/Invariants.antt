use Rattle.std.proofs.Common.{ℕ, ◌+◌, ◌<◌, ◌∷◌, [], get_or}
use Rattle.aa_auto.specs.Tables.{row_after}
use Rattle.aa_regions.specs.Steps.{step_at, IsTrail, IsLevel, IsWithin, Extends}
use Rattle.aa_regions.proofs.search.follow.Given as goal

abbrev pub invariant-loop-byte : goal.invariant-loop-byte
invariant-loop-byte l = record {
  trail : IsTrail l.automaton l.head l.low l.max l.trail.seen.items l.trail.steps.items;
  level : IsLevel l.trail.steps.items l.number;
  extends : Extends l.fn.trail.steps.items l.trail.steps.items;
  behind : (k : ℕ) → k < l.byte-index
      → IsWithin l.trail.steps.items (row_after l.automaton (step_at l.fn.trail.steps.items l.number).row (get_or l.bytes k 0 ∷ []))
      ((step_at l.fn.trail.steps.items l.number).length + 1);
}
