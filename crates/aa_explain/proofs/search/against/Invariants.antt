use Rattle.std.proofs.Common.{◌≡◌, ℕ, ◌<◌, Some, get_or, slice_get}
use Rattle.aa_explain.specs.Clashes.{Conflict}
use Rattle.aa_explain.proofs.search.against.Given as goal

abbrev pub invariant-loop-number : goal.invariant-loop-number
invariant-loop-number l = (k other : ℕ) → k < l.number-index → slice_get l.owners (get_or l.numbers k 0) ≡ Some other → l.one < other → Conflict l.rules l.one other l.text → ⊥
