-- Rising numbers, with one more.
use Rattle.std.specs.Prelude.{◌≡◌, ℕ, ◌<◌, ◌↔◌, ◌⊎◌, List, Bool, IsTrue, length, Contains, slice_index}
use Rattle.std.specs.List.Sorted.{IsStrictlyIncreasing}

-- the value was added where it wasn't there; what is below it keeps its index
pub record Inserts (old new : List ℕ) (value : ℕ) : Type 0 where
  pub rising : IsStrictlyIncreasing new
  pub exact : (n : ℕ) → Contains new n ↔ (Contains old n ⊎ (n ≡ value))
  pub kept : (k : ℕ) → k < length old → slice_index old k < value → (k < length new) × (slice_index new k ≡ slice_index old k)

-- the value was, where it is wanted
pub record InsertsIf (old new : List ℕ) (value : ℕ) (wanted : Bool) : Type 0 where
  pub rising : IsStrictlyIncreasing new
  pub exact : (n : ℕ) → Contains new n ↔ (Contains old n ⊎ ((n ≡ value) × IsTrue wanted))
