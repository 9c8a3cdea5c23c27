-- Patterns as numbers: those of the same items, and those alone, have the same.
-- Source: own.
use Rattle.std.specs.Prelude.{ℕ, zero, suc, ◌+◌, Bool, false, List, [], ◌∷◌, ◌++◌, flat_map, slice_index_or, if◌then◌else◌, Vec}
use Rattle.std.specs.Global.{Global}
use Rattle.aa_pattern.specs.declared.item.Item.{Item, Byte, One, Run, RunOne, Deep, DeepOne, Class, Choice'}
use Rattle.aa_pattern.specs.declared.item.Item.{Row_of-Item, end_of-Item, more_of-Item, Row_of-Item-Choice-0-1, end_of-Item-Choice-0-1, more_of-Item-Choice-0-1}
use Rattle.aa_pattern.specs.declared.pattern.Pattern.{Pattern}

-- a byte, if it is in the set
abbrev pub member : List Bool → ℕ → List ℕ
member set b = if slice_index_or set b false then (b + 9) ∷ [] else []

-- the bytes below n that are in the set
unfoldable pub members : List Bool → ℕ → List ℕ
members set zero = []
members set (suc n) = members set n ++ member set n

-- the numbers of a class: its bytes, and an end
unfoldable pub class_code : List Bool → List ℕ
class_code set = 6 ∷ (members set 256 ++ 0 ∷ [])

abbrev mutual
  -- the numbers of an item
  pub item_code : Item → List ℕ
  item_code (Byte b) = (b + 9) ∷ []
  item_code One = 1 ∷ []
  item_code Run = 2 ∷ []
  item_code RunOne = 3 ∷ []
  item_code Deep = 4 ∷ []
  item_code DeepOne = 5 ∷ []
  item_code (Class set) = class_code set
  item_code (Choice' _ branches) = 7 ∷ (rows_code branches ++ 0 ∷ [])

  -- `branches_code`, of a choice
  pub rows_code : {n : _} → Row_of-Item-Choice-0-1 n → List ℕ
  rows_code end_of-Item-Choice-0-1 = []
  rows_code (more_of-Item-Choice-0-1 _ branch rest) = (8 ∷ (row_code branch ++ 0 ∷ [])) ++ rows_code rest

  -- `items_code`, of a branch
  pub row_code : {n : _} → Row_of-Item n → List ℕ
  row_code end_of-Item = []
  row_code (more_of-Item item rest) = item_code item ++ row_code rest

-- the numbers of items, one after another
abbrev pub items_code : List Item → List ℕ
items_code items = flat_map item_code items

-- those of a branch, between its begin and its end
abbrev pub branch_code : Vec Item Global → List ℕ
branch_code branch = 8 ∷ (items_code branch.items ++ 0 ∷ [])

-- those of branches
abbrev pub branches_code : List (Vec Item Global) → List ℕ
branches_code branches = flat_map branch_code branches

-- those of a pattern
abbrev pub pattern_code : Pattern → List ℕ
pattern_code p = items_code p.items.items
