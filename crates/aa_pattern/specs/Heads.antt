-- What stands before each position of a pattern, from left to right.
use Rattle.std.specs.Prelude.{List, [], ◌∷◌, ◌++◌, Vec}
use Rattle.std.specs.Global.{Global}
use Rattle.aa_pattern.specs.declared.item.Item.{Item, Choice', Row_of-Item, end_of-Item, more_of-Item, Row_of-Item-Choice-0-1, end_of-Item-Choice-0-1, more_of-Item-Choice-0-1}
use Rattle.aa_pattern.specs.declared.pattern.Pattern.{Pattern}

abbrev mutual
  -- the heads of the positions within an item that h stands before
  pub heads_within : List Item → Item → List (List Item)
  heads_within h (Choice' _ branches) = heads_of_branches h branches
  heads_within h _ = []

  pub heads_of_branches : {n : _} → List Item → Row_of-Item-Choice-0-1 n → List (List Item)
  heads_of_branches h end_of-Item-Choice-0-1 = []
  heads_of_branches h (more_of-Item-Choice-0-1 _ branch rest) = (h ∷ heads_along h branch) ++ heads_of_branches h rest

  pub heads_along : {n : _} → List Item → Row_of-Item n → List (List Item)
  heads_along h end_of-Item = []
  heads_along h (more_of-Item item rest) = heads_within h item ++ (h ++ item ∷ []) ∷ heads_along (h ++ item ∷ []) rest

-- the heads of the positions of these items after the first gap
abbrev pub heads_after : List Item → List Item → List (List Item)
heads_after h [] = []
heads_after h (item ∷ items) = heads_within h item ++ (h ++ item ∷ []) ∷ heads_after (h ++ item ∷ []) items

-- the heads of all positions of the sequences, one sequence after the other
abbrev pub heads_of_choice : List Item → List (Vec Item Global) → List (List Item)
heads_of_choice h [] = []
heads_of_choice h (branch ∷ rest) = (h ∷ heads_after h branch.items) ++ heads_of_choice h rest

-- the heads of all positions of these patterns, pattern by pattern
abbrev pub heads_of_patterns : List Pattern → List (List Item)
heads_of_patterns [] = []
heads_of_patterns (p ∷ ps) = ([] ∷ heads_after [] p.items.items) ++ heads_of_patterns ps
