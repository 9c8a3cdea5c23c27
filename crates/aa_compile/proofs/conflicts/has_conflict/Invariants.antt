use Rattle.std.proofs.Common.{ℕ, ◌<◌, Bool, get_or, []}
use Rattle.aa_compile.specs.Conflicts.{WaysDiffer}
use Rattle.aa_compile.proofs.conflicts.has_conflict.Given as goal

abbrev pub invariant-loop-number : goal.invariant-loop-number
invariant-loop-number l = (k : ℕ) (literal : Bool) → k < l.number → WaysDiffer l.marks literal (get_or l.automaton.lists k []) → ⊥
