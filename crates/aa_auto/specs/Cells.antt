-- The cells of an automaton's rows, one for each class of bytes.
use Rattle.std.specs.Prelude.{ℕ, ◌+◌, ◌*◌, ◌<◌, List, length, slice_index}

-- each cell so far is where the byte of its class goes to from its row
abbrev pub AreCellsBy : (ℕ → ℕ → ℕ → Type 0) → List ℕ → List ℕ → Type 0
AreCellsBy Goes bytes cells =
    (row class : ℕ) → class < length bytes → length bytes * row + class < length cells →
    Goes row (slice_index bytes class) (slice_index cells (length bytes * row + class))
