-- Lists of numbers that differ pairwise.
use Rattle.std.specs.Prelude.{◌≡◌, ℕ, ◌<◌, List, [], length, slice_index_or}

-- no two of the lists are the same
abbrev pub IsApart : List (List ℕ) → Type 0
IsApart sets = (i j : ℕ) → i < length sets → j < length sets → slice_index_or sets i [] ≡ slice_index_or sets j [] → i ≡ j
