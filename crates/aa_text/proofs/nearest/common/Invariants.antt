use Rattle.std.proofs.Common.{◌≡◌, ◌+◌, ◌≤◌, drop, length}
use Rattle.aa_text.specs.Nearest.{common}
use Rattle.aa_text.proofs.nearest.common.Given as goal

abbrev pub invariant-loop-i : goal.invariant-loop-i
invariant-loop-i l = (common l.first l.second ≡ l.i + common (drop l.i l.first) (drop l.i l.second)) × (l.i ≤ length l.second)
