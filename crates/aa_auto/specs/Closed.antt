-- Positions that are reached without a byte.
use Rattle.std.specs.Prelude.{◌≡◌, ℕ, ◌<◌, ◌≤◌, ◌↔◌, ◌⊎◌, List, [], length, Contains, slice_index, slice_index_or}
use Rattle.std.specs.List.Sorted.{IsStrictlyIncreasing}

-- the positions that the row p lists stand behind p
abbrev pub IsUpward : List (List ℕ) → Type 0
IsUpward rows = (p n : ℕ) → Contains (slice_index_or rows p []) n → (p < n) × (n < length rows)

-- a position of the set is a seed, or is listed by another one's row
pub record IsClosure (rows : List (List ℕ)) (seeds set : List ℕ) : Type 0 where
  pub rising : IsStrictlyIncreasing set
  pub within : (n : ℕ) → Contains set n → n < length rows
  pub exact : (n : ℕ) → Contains set n ↔ (Contains seeds n ⊎ ((p : ℕ) × Contains set p × Contains (slice_index_or rows p []) n))

-- of each number of the set, where it stands there
abbrev pub AreIndexed : List ℕ → List ℕ → Type 0
AreIndexed indexes set = (k : ℕ) → k < length set → (slice_index set k < length indexes) × (slice_index indexes (slice_index set k) ≡ k)

-- the number was added behind the others, where it wasn't there, and its index was noted
pub record Adds (was indexes old new : List ℕ) (number : ℕ) : Type 0 where
  pub many : length indexes ≡ length was
  pub indexed : AreIndexed indexes new
  pub kept : (k : ℕ) → k < length old → (k < length new) × (slice_index new k ≡ slice_index old k)
  pub exact : (n : ℕ) → Contains new n ↔ (Contains old n ⊎ (n ≡ number))

-- all the numbers were
pub record AddsAll (was indexes old new numbers : List ℕ) : Type 0 where
  pub many : length indexes ≡ length was
  pub indexed : AreIndexed indexes new
  pub kept : (k : ℕ) → k < length old → (k < length new) × (slice_index new k ≡ slice_index old k)
  pub exact : (n : ℕ) → Contains new n ↔ (Contains old n ⊎ Contains numbers n)

-- the rows of the first `index` positions of the set are done
pub record IsClosing (rows : List (List ℕ)) (old set : List ℕ) (index : ℕ) : Type 0 where
  pub within : (n : ℕ) → Contains set n → n < length rows
  pub has : (n : ℕ) → Contains old n → Contains set n
  pub from : (n : ℕ) → Contains set n → Contains old n ⊎ ((p : ℕ) × Contains set p × Contains (slice_index_or rows p []) n)
  pub finished : (k : ℕ) → k < index → k < length set → (n : ℕ) → Contains (slice_index_or rows (slice_index set k) []) n → Contains set n
  pub many : index ≤ length set

-- all rows are: what is there was there before, or is listed by another one's row, and nothing is there twice
pub record IsReached (rows : List (List ℕ)) (indexes old set : List ℕ) : Type 0 where
  pub indexed : AreIndexed indexes set
  pub within : (n : ℕ) → Contains set n → n < length rows
  pub exact : (n : ℕ) → Contains set n ↔ (Contains old n ⊎ ((p : ℕ) × Contains set p × Contains (slice_index_or rows p []) n))
