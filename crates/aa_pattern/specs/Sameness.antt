-- When two lists of items are the same.
use Rattle.std.specs.Prelude.{◌≡◌, ◌↔◌, ℕ, List, [], ◌∷◌}
use Rattle.aa_pattern.specs.declared.item.Item.{Item, Choice', Row_of-Item, end_of-Item, more_of-Item, Row_of-Item-Choice-0-1, end_of-Item-Choice-0-1, more_of-Item-Choice-0-1}
use Rattle.aa_pattern.specs.Globs.{Matches}

abbrev mutual
  -- they are equal, or choices with the same branches, wherever these lie in memory
  pub SameItem : Item → Item → Type 0
  SameItem (Choice' _ branches) (Choice' _ others) = SameBranches branches others
  SameItem item other = item ≡ other

  pub SameBranches : {n m : _} → Row_of-Item-Choice-0-1 n → Row_of-Item-Choice-0-1 m → Type 0
  SameBranches end_of-Item-Choice-0-1 end_of-Item-Choice-0-1 = Unit {0}
  SameBranches (more_of-Item-Choice-0-1 _ branch rest) (more_of-Item-Choice-0-1 _ other others) = SameBranch branch other × SameBranches rest others
  SameBranches _ _ = ⊥

  -- `SameItems`, of branches
  pub SameBranch : {n m : _} → Row_of-Item n → Row_of-Item m → Type 0
  SameBranch end_of-Item end_of-Item = Unit {0}
  SameBranch (more_of-Item item rest) (more_of-Item other others) = SameItem item other × SameBranch rest others
  SameBranch _ _ = ⊥

-- as many items, each the same as the other in its place
abbrev pub SameItems : List Item → List Item → Type 0
SameItems [] [] = Unit {0}
SameItems (item ∷ items) (other ∷ others) = SameItem item other × SameItems items others
SameItems _ _ = ⊥

-- the same items match the same texts
abbrev pub SameItemsMatch : Type 0
SameItemsMatch = (items others : List Item) → SameItems items others → (text : List ℕ) → Matches items text ↔ Matches others text
