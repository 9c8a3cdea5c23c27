-- How many items there are, with those inside.
use Rattle.std.specs.Prelude.{ℕ, ◌+◌, List, [], ◌∷◌, Vec}
use Rattle.std.specs.Global.{Global}
use Rattle.aa_pattern.specs.declared.item.Item.{Item, Choice', Row_of-Item, end_of-Item, more_of-Item, Row_of-Item-Choice-0-1, end_of-Item-Choice-0-1, more_of-Item-Choice-0-1}

abbrev mutual
  pub weight : Item → ℕ
  weight (Choice' _ branches) = 1 + weight_of_branches branches
  weight _ = 1

  pub weight_of_branches : {n : _} → Row_of-Item-Choice-0-1 n → ℕ
  weight_of_branches end_of-Item-Choice-0-1 = 0
  weight_of_branches (more_of-Item-Choice-0-1 _ branch rest) = 1 + (weight_of_row branch + weight_of_branches rest)

  pub weight_of_row : {n : _} → Row_of-Item n → ℕ
  weight_of_row end_of-Item = 0
  weight_of_row (more_of-Item item rest) = weight item + weight_of_row rest

-- what items weigh together
abbrev pub weight_of_items : List Item → ℕ
weight_of_items [] = 0
weight_of_items (item ∷ items) = weight item + weight_of_items items

-- what branches weigh together
abbrev pub weight_of_lists : List (Vec Item Global) → ℕ
weight_of_lists [] = 0
weight_of_lists (branch ∷ rest) = 1 + (weight_of_items branch.items + weight_of_lists rest)
