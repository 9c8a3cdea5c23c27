use Rattle.std.proofs.Common.{◌≡◌, ◌<◌, ℕ, [], ◌∷◌}
use Rattle.aa_auto.specs.Tables.{row_after}
use Rattle.aa_auto.proofs.beside.dead_row.Given as goal

abbrev pub invariant-loop-byte : goal.invariant-loop-byte
invariant-loop-byte l = (b : ℕ) → b < l.byte → row_after l.automaton l.row (b ∷ []) ≡ l.row
