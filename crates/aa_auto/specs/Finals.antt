-- The positions at which patterns end.
use Rattle.std.specs.Prelude.{◌≡◌, ◌↔◌, ℕ, ◌<◌, Option, Some, None, List, length, Contains, slice_index_or}
use Rattle.std.specs.List.Sorted.{IsStrictlyIncreasing}

-- no pattern ends at any of so many positions
pub record AreNoFinals (finals : List (Option ℕ)) (many : ℕ) : Type 0 where
  pub count : length finals ≡ many
  pub none : (p : ℕ) → slice_index_or finals p None ≡ None

-- each of `many` positions has the number of the pattern that ends there, if it is one of the first k
pub record AreFinals (ends : List ℕ) (k many : ℕ) (finals : List (Option ℕ)) : Type 0 where
  pub count : length finals ≡ many
  pub exact : (p n : ℕ) → (slice_index_or finals p None ≡ Some n) ↔ ((n < k) × (slice_index_or ends n 0 ≡ p))

-- the numbers of the patterns that end at a position of the set, rising
pub record ListsFinals (ends set numbers : List ℕ) : Type 0 where
  pub rising : IsStrictlyIncreasing numbers
  pub exact : (n : ℕ) → Contains numbers n ↔ ((n < length ends) × Contains set (slice_index_or ends n 0))
