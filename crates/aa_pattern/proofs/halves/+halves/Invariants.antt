use Rattle.std.proofs.Common.{ℕ, ◌+◌, ◌*◌, ◌<◌, take, drop}
use Rattle.aa_pattern.specs.Globs.{Matches, SomeMatches}
use Rattle.aa_pattern.specs.Weights.{weight, weight_of_items, weight_of_lists}
use Rattle.aa_pattern.proofs.halves.+halves.Given as goal

-- no cut so far serves
abbrev pub invariant-matches_by_halves-loop-cut : goal.invariant-matches_by_halves-loop-cut
invariant-matches_by_halves-loop-cut l = (k : ℕ) → k < l.cut → Matches l.front (take k l.text) → Matches l.back (drop k l.text) → ⊥

-- no sequence so far matches
abbrev pub invariant-some_matches-loop-branch : goal.invariant-some_matches-loop-branch
invariant-some_matches-loop-branch l = SomeMatches (take l.branch-index l.branches) l.text → ⊥

abbrev pub decreases-matches_by_halves : goal.decreases-matches_by_halves
decreases-matches_by_halves l = 2 * weight_of_items l.items.now + 1

abbrev pub decreases-allows : goal.decreases-allows
decreases-allows l = 2 * weight l.item.now

abbrev pub decreases-some_matches : goal.decreases-some_matches
decreases-some_matches l = 2 * weight_of_lists l.branches.now + 1
