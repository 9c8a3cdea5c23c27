-- Bytes that stand for all others of their classes.
-- Source: byte classes of a deterministic automaton; own.
use Rattle.std.specs.Prelude.{◌≡◌, ℕ, ◌<◌, List, Bool, true, false, length, All, slice_index, slice_index_or}
use Rattle.aa_auto.specs.Tables.{Table, classes_of}
use Rattle.aa_regions.specs.Wanted.{IsFrom}

-- the class of that number is marked
abbrev pub IsMarked : List Bool → ℕ → Type 0
IsMarked marked n = slice_index_or marked n false ≡ true

-- what was marked still is
abbrev pub StayMarked : List Bool → List Bool → Type 0
StayMarked was marked = (n : ℕ) → IsMarked was n → IsMarked marked n

-- one of the bytes is of that class
abbrev pub HasClass : Table → List ℕ → ℕ → Type 0
HasClass t bytes class = (k : ℕ) × (k < length bytes) × (slice_index t.classes (slice_index bytes k) ≡ class)

-- a class is marked where one of the bytes is of it
pub record AreMet (t : Table) (low : ℕ) (marked : List Bool) (bytes : List ℕ) : Type 0 where
  pub many : length marked ≡ classes_of t
  pub from : All (IsFrom low) bytes
  pub each : (class : ℕ) → IsMarked marked class → HasClass t bytes class

-- each byte from `low` up is of the class of one of them
abbrev pub StandForAll : Table → ℕ → List ℕ → Type 0
StandForAll t low bytes = (b : ℕ) → IsFrom low b → HasClass t bytes (slice_index t.classes b)
