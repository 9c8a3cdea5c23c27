-- Flags over the places of a text.
use Rattle.std.specs.Prelude.{ℕ, ◌+◌, ◌<◌, ◌≤◌, ◌≡◌, ◌↔◌, ◌⊎◌, Bool, false, List, [], ◌∷◌, ◌++◌, length, take, IsTrue, slice_index_or, Vec}
use Rattle.std.specs.Global.{Global}
use Rattle.aa_pattern.specs.declared.item.Item.{Item}
use Rattle.aa_pattern.specs.Globs.{Matches}
use Rattle.aa_pattern.specs.Steps.{Begins, Continues, IsSkippable}

-- the flag at a place says whether the items match the text before it
pub record Shows (flags : List Bool) (items : List Item) (text : List ℕ) : Type 0 where
  pub at : (k : ℕ) → k ≤ length text → IsTrue (slice_index_or flags k false) ↔ Matches items (take k text)

-- no flag is set but at the text's places from first on that are before end
pub record AreWithin (flags : List Bool) (text : List ℕ) (first end : ℕ) : Type 0 where
  pub before : (k : ℕ) → k < first → slice_index_or flags k false ≡ false
  pub behind : (k : ℕ) → end ≤ k → slice_index_or flags k false ≡ false
  pub fits : end ≤ length text + 1

-- no flag is set
abbrev pub AreUnset : List Bool → Type 0
AreUnset flags = (k : ℕ) → slice_index_or flags k false ≡ false

-- the flags of the places from first on that are before end become these, the others stay
pub record Changes (old new : List Bool) (first end : ℕ) (flag : ℕ → Bool) : Type 0 where
  pub within : (k : ℕ) → first ≤ k → k < end → slice_index_or new k false ≡ flag k
  pub before : (k : ℕ) → k < first → slice_index_or new k false ≡ slice_index_or old k false
  pub behind : (k : ℕ) → end ≤ k → slice_index_or new k false ≡ slice_index_or old k false

-- what showed any items shows them with these behind
pub record Follows (items : List Item) (text : List ℕ) (old new : List Bool) : Type 0 where
  pub follow : (h : List Item) → Shows old h text → Shows new (h ++ items) text

-- some sequence of the choice behind h matches
abbrev pub SomeEnds : List Item → List (Vec Item Global) → List ℕ → Type 0
SomeEnds h [] t = ⊥
SomeEnds h (branch ∷ rest) t = Matches (h ++ branch.items) t ⊎ SomeEnds h rest t

-- what showed any items shows where some sequence behind them ends
pub record FollowsSome (branches : List (Vec Item Global)) (text : List ℕ) (old new : List Bool) : Type 0 where
  pub follow : (h : List Item) → Shows old h text → (k : ℕ) → k ≤ length text → IsTrue (slice_index_or new k false) ↔ SomeEnds h branches (take k text)

-- the flag at a gap says whether the items before it match the text
pub record StandsIn (gaps : List Bool) (items : List Item) (text : List ℕ) : Type 0 where
  pub at : (g : ℕ) → g ≤ length items → IsTrue (slice_index_or gaps g false) ↔ Matches (take g items) text

-- the text up to the end of a simple item: what stands before it matches up to here, or up to the byte before, or the item has begun
abbrev pub Grows : Item → ℕ → Type 0 → Type 0 → Type 0 → Type 0
Grows i b here was_here was_next = (IsSkippable i × here) ⊎ (was_here × Begins i b) ⊎ (was_next × Continues i b)
