use Rattle.std.proofs.Common.{ℕ, ◌<◌, get_or}
use Rattle.aa_explain.specs.Clashes.{OwnerConflicts}
use Rattle.aa_explain.proofs.search.among.Given as goal

abbrev pub invariant-loop-number : goal.invariant-loop-number
invariant-loop-number l = (k : ℕ) → k < l.number-index → OwnerConflicts l.rules l.owners l.numbers (get_or l.numbers k 0) l.text → ⊥
