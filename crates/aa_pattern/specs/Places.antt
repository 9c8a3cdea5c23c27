-- Where a text may stand in a pattern.
use Rattle.std.specs.Prelude.{◌≡◌, ◌≤◌, ℕ, ◌↔◌, Some, List, [], ◌∷◌, ◌++◌, length, take, slice_get}
use Rattle.aa_pattern.specs.declared.item.Item.{Item}
use Rattle.aa_pattern.specs.declared.pattern.Pattern.{Pattern}
use Rattle.aa_pattern.specs.Globs.{Matches, branches_of}

-- a position in a list of items: before the item i (after the last, where there are i), or at a position within branch j of the choice i
pub data Position : Type 0 where
  Gap : (i : ℕ) → Position
  Within : (i j : ℕ) → Position → Position

-- h is what stands before the position
abbrev pub IsHead : List Item → Position → List Item → Type 0
IsHead items (Gap i) h = (i ≤ length items) × (h ≡ take i items)
IsHead items (Within i j q) h =
    (item : Item) × (branch : List Item) × (inner : List Item)
    × (slice_get items i ≡ Some item) × (slice_get (branches_of item) j ≡ Some branch)
    × IsHead branch q inner × (h ≡ take i items ++ inner)

-- the text may stand at that position of pattern number n
abbrev pub IsPlace : List Pattern → List ℕ → ℕ → Position → Type 0
IsPlace ps s n q = (p : Pattern) × (h : List Item) × (slice_get ps n ≡ Some p) × IsHead p.items.items q h × Matches h s

-- two texts may stand at the same places
abbrev pub SamePlaces : List Pattern → List ℕ → List ℕ → Type 0
SamePlaces ps s t = (n : ℕ) (q : Position) → IsPlace ps s n q ↔ IsPlace ps t n q

-- texts with the same places match the same patterns
abbrev pub DecideMatching : List Pattern → Type 0
DecideMatching ps = (s t : List ℕ) → SamePlaces ps s t → (n : ℕ) (p : Pattern) → slice_get ps n ≡ Some p → Matches p.items.items s ↔ Matches p.items.items t

-- texts with the same places have the same places after one more byte
abbrev pub DecideNext : List Pattern → Type 0
DecideNext ps = (s t : List ℕ) (b : ℕ) → SamePlaces ps s t → SamePlaces ps (s ++ b ∷ []) (t ++ b ∷ [])
