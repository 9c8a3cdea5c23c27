-- Which texts a pattern matches.
use Rattle.std.specs.Prelude.{◌≡◌, ◌≢◌, ℕ, ◌<◌, Bool, true, false, ◌⊎◌, List, [], ◌∷◌, ◌++◌, All, IsTrue, slice_index_or, Vec}
use Rattle.std.specs.Global.{Global}
use Rattle.aa_pattern.specs.declared.item.Item.{Item, Byte, One, Run, RunOne, Deep, DeepOne, Class, Choice', Row_of-Item, end_of-Item, more_of-Item}
use Rattle.aa_pattern.specs.declared.item.Item.{items-the_row-Item, Row_of-Item-Choice-0-1, end_of-Item-Choice-0-1, more_of-Item-Choice-0-1}

-- a byte that a text may hold where something matches it
abbrev pub IsNonzeroByte : ℕ → Type 0
IsNonzeroByte b = (0 < b) × (b < 256)

-- such a byte but '/'
abbrev pub IsNameByte : ℕ → Type 0
IsNameByte b = IsNonzeroByte b × (b ≢ 47)

-- a byte that a class lists
abbrev pub IsListed : List Bool → ℕ → Type 0
IsListed set b = IsNonzeroByte b × IsTrue (slice_index_or set b false)

abbrev mutual
  -- what an item allows
  pub Allows : Item → List ℕ → Type 0
  Allows (Byte c) s = (s ≡ c ∷ []) × IsNonzeroByte c
  Allows One s = (b : ℕ) × (s ≡ b ∷ []) × IsNameByte b
  Allows Run s = All IsNameByte s
  Allows RunOne s = All IsNameByte s × (s ≢ [])
  Allows Deep s = All IsNonzeroByte s
  Allows DeepOne s = (b : ℕ) × (rest : List ℕ) × (s ≡ b ∷ rest) × IsNameByte b × All IsNonzeroByte rest
  Allows (Class set) s = (b : ℕ) × (s ≡ b ∷ []) × IsListed set b
  Allows (Choice' _ branches) s = SomeAllows branches s

  -- one of the branches of a choice does
  pub SomeAllows : {n : _} → Row_of-Item-Choice-0-1 n → List ℕ → Type 0
  SomeAllows end_of-Item-Choice-0-1 s = ⊥
  SomeAllows (more_of-Item-Choice-0-1 _ branch rest) s = AllAllow branch s ⊎ SomeAllows rest s

  -- `Matches`, of a branch
  pub AllAllow : {n : _} → Row_of-Item n → List ℕ → Type 0
  AllAllow end_of-Item s = s ≡ []
  AllAllow (more_of-Item item rest) s = (a : List ℕ) × (b : List ℕ) × (s ≡ a ++ b) × Allows item a × AllAllow rest b

-- the text is cut into as many parts as there are items, each allowed by its item
abbrev pub Matches : List Item → List ℕ → Type 0
Matches [] s = s ≡ []
Matches (item ∷ items) s = (a : List ℕ) × (b : List ℕ) × (s ≡ a ++ b) × Allows item a × Matches items b

-- the sequences of a choice
abbrev pub sequences : {n : _} → Row_of-Item-Choice-0-1 n → List (List Item)
sequences end_of-Item-Choice-0-1 = []
sequences (more_of-Item-Choice-0-1 _ branch rest) = items-the_row-Item _ branch ∷ sequences rest

-- the branches of a choice
abbrev pub branches_of : Item → List (List Item)
branches_of (Choice' _ branches) = sequences branches
branches_of _ = []

-- one of the sequences matches
abbrev pub SomeMatches : List (Vec Item Global) → List ℕ → Type 0
SomeMatches [] s = ⊥
SomeMatches (branch ∷ rest) s = Matches branch.items s ⊎ SomeMatches rest s

-- the item is one byte
abbrev pub is_byte : Item → Bool
is_byte (Byte c) = true
is_byte _ = false
