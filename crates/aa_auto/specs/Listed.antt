-- Lists of numbers that rows share.
use Rattle.std.specs.Prelude.{◌≡◌, ℕ, ◌<◌, ◌≤◌, List, [], ◌∷◌, ◌++◌, All, Contains, length, map, slice_index_or}
use Rattle.aa_auto.specs.Apart.{IsApart}

-- the lists, and of each row the number of its list
pub record Listing : Type 0 where
  pub lists : List (List ℕ)
  pub listed : List ℕ

-- the list of each row
abbrev pub row_lists : Listing → List (List ℕ)
row_lists l = map (λ n. slice_index_or l.lists n []) l.listed

-- each row has a list, no two lists are equal, and each is some row's
pub record IsListing (l : Listing) : Type 0 where
  pub within : All (λ n. n < length l.lists) l.listed
  pub apart : IsApart l.lists
  pub used : (n : ℕ) → n < length l.lists → Contains l.listed n
  pub few : length l.lists ≤ length l.listed

-- one row more, which has that list
pub record AddsRow (old new : Listing) (numbers : List ℕ) : Type 0 where
  pub listing : IsListing new
  pub lists : row_lists new ≡ row_lists old ++ numbers ∷ []
