-- Bytes that no item tells apart.
-- Source: byte classes of a deterministic automaton.
use Rattle.std.specs.Prelude.{◌↔◌, ℕ, List, [], ◌∷◌, Vec}
use Rattle.std.specs.Global.{Global}
use Rattle.aa_pattern.specs.declared.item.Item.{Item, Choice', Row_of-Item, end_of-Item, more_of-Item, Row_of-Item-Choice-0-1, end_of-Item-Choice-0-1, more_of-Item-Choice-0-1}
use Rattle.aa_pattern.specs.declared.pattern.Pattern.{Pattern}
use Rattle.aa_pattern.specs.Steps.{Begins, Continues}

abbrev mutual
  -- what the item allows begins with both bytes or with neither, and goes on with both or with neither; a choice is asked item by item
  pub IsSameFor : Item → ℕ → ℕ → Type 0
  IsSameFor (Choice' _ branches) a b = IsSameForBranches branches a b
  IsSameFor item a b = (Begins item a ↔ Begins item b) × (Continues item a ↔ Continues item b)

  pub IsSameForBranches : {n : _} → Row_of-Item-Choice-0-1 n → ℕ → ℕ → Type 0
  IsSameForBranches end_of-Item-Choice-0-1 a b = Unit {0}
  IsSameForBranches (more_of-Item-Choice-0-1 _ branch rest) a b = IsSameForRow branch a b × IsSameForBranches rest a b

  pub IsSameForRow : {n : _} → Row_of-Item n → ℕ → ℕ → Type 0
  IsSameForRow end_of-Item a b = Unit {0}
  IsSameForRow (more_of-Item item rest) a b = IsSameFor item a b × IsSameForRow rest a b

-- so for each of the items
abbrev pub IsSameForItems : List Item → ℕ → ℕ → Type 0
IsSameForItems [] a b = Unit {0}
IsSameForItems (item ∷ items) a b = IsSameFor item a b × IsSameForItems items a b

-- and for each item of these sequences
abbrev pub IsSameForLists : List (Vec Item Global) → ℕ → ℕ → Type 0
IsSameForLists [] a b = Unit {0}
IsSameForLists (branch ∷ rest) a b = IsSameForItems branch.items a b × IsSameForLists rest a b

-- each item of the patterns, also inside choices, accepts both bytes or neither
abbrev pub IsSame : List Pattern → ℕ → ℕ → Type 0
IsSame [] a b = Unit {0}
IsSame (p ∷ ps) a b = IsSameForItems p.items.items a b × IsSame ps a b
