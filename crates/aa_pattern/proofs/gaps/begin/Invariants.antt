use Rattle.std.proofs.Common.{◌≤◌, ◌↔◌, ℕ, [], IsTrue, false, take, get_or}
use Rattle.aa_pattern.specs.Globs.{Matches}
use Rattle.aa_pattern.proofs.gaps.begin.Given as goal

abbrev pub invariant-loop-i : goal.invariant-loop-i
invariant-loop-i l = (g : ℕ) → g ≤ l.i → IsTrue (get_or l.gaps g false) ↔ Matches (take g l.items) []
