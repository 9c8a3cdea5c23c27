-- The order in which what logs hold is printed.
-- Source: own.
use Rattle.std.specs.Prelude.{ℕ, ◌≡◌, List, [], ◌∷◌, length, map, flat_map, option_to_list, unwrap_or, slice_get}
use Rattle.std.specs.List.{range_with_len}
use Rattle.std.specs.List.Sorted.{IsPermutation, IsSortedByKey, IsStableByKey}
use Rattle.std.specs.Ordering.{nat_cmp}
use Rattle.std.specs.Cmp.Lexicographic.{slice_cmp}
use Rattle.aa_log.specs.declared.logging.Entry.{Entry}
use Rattle.aa_log.specs.declared.logging.SkippedLines.{SkippedLines}

-- the numbers below n, in order
abbrev pub up_to : ℕ → List ℕ
up_to n = range_with_len 0 n

-- the key of that number
abbrev pub key_at : List (List ℕ) → ℕ → List ℕ
key_at keys n = unwrap_or (slice_get keys n) []

-- the numbers of keys by these in byte order, those of one key ascending
pub record IsOrder (keys : List (List ℕ)) (numbers : List ℕ) : Type 0 where
  pub same : IsPermutation (up_to (length keys)) numbers
  pub sorted : IsSortedByKey (key_at keys) (slice_cmp nat_cmp) numbers
  pub stable : IsStableByKey (key_at keys) (slice_cmp nat_cmp) (up_to (length keys)) numbers

-- the items of those numbers
abbrev pub items_at : {X : Type 0} → List X → List ℕ → List X
items_at xs numbers = flat_map (λ n. option_to_list (slice_get xs n)) numbers

-- the items by their keys in byte order, those of one key in the order that they have
pub record IsInOrder {X : Type 0} (key : X → List ℕ) (xs ordered : List X) : Type 0 where
  pub numbers : List ℕ
  pub order : IsOrder (map key xs) numbers
  pub listed : ordered ≡ items_at xs numbers

-- entries go by their profiles
abbrev pub profile_of : Entry → List ℕ
profile_of e = e.profile.items

-- reasons go by their place in the order of reasons, and those of one place by their names
abbrev pub reason_key : SkippedLines → List ℕ
reason_key s = s.reason.0 ∷ s.reason.1.now
