-- The positions of patterns, item by item.
use Rattle.std.specs.Prelude.{◌≡◌, ◌↔◌, ℕ, ◌<◌, Some, List, [], ◌∷◌, ◌++◌, All, Vec, length, slice_get, slice_index_or}
use Rattle.std.specs.Global.{Global}
use Rattle.std.specs.List.Sorted.{IsStrictlyIncreasing}
use Rattle.aa_pattern.specs.declared.item.Item.{Item}
use Rattle.aa_pattern.specs.declared.pattern.Pattern.{Pattern}
use Rattle.aa_pattern.specs.Heads.{heads_within, heads_after, heads_of_choice, heads_of_patterns}
use Rattle.aa_auto.specs.declared.merging.Merged.{Merged}
use Rattle.aa_auto.specs.Classes.{IsSame, IsSameFor, IsSameForItems, IsSameForLists}
use Rattle.aa_auto.specs.Merged.{SameTexts, kept, IsWhole, IsMerged, Names, AreEnds, Grows}
use Rattle.aa_auto.specs.Nodes.{head_at, AreSameNodes, SomeEnds}

-- the positions of these items were added behind the source, and n is the last
abbrev pub AddsItems : Merged → Merged → ℕ → List Item → ℕ → Type 0
AddsItems old new source items n =
    (n < length new.nodes.items)
    × Grows old new (λ hs h. Names hs old source h) (λ h. heads_after h items) (λ hs h. Names hs new n (h ++ items)) (IsSameForItems items)

-- the positions within an item that stands behind the source were added, and n, which stands behind the item
abbrev pub AddsItem : Merged → Merged → ℕ → Item → ℕ → Type 0
AddsItem old new source item n =
    (n < length new.nodes.items)
    × Grows old new (λ hs h. Names hs old source h) (λ h. heads_within h item ++ (h ++ item ∷ []) ∷ []) (λ hs h. Names hs new n (h ++ item ∷ []))
    (IsSameFor item)

-- the positions of the branches of a choice behind the source were added, that end at these
abbrev pub AddsBranches : Merged → Merged → ℕ → List (Vec Item Global) → List ℕ → Type 0
AddsBranches old new source branches ends =
    Grows old new (λ hs h. Names hs old source h) (λ h. heads_of_choice h branches) (λ hs h. AreEnds hs new ends (SomeEnds h branches))
    (IsSameForLists branches)

-- the positions are those of the patterns, with another one for each pattern's end
pub record ArePositions (ps : List Pattern) (m : Merged) (ends : List ℕ) : Type 0 where
  pub whole : IsWhole m
  pub merged : IsMerged (heads_of_patterns ps) m
  pub same : (a b : ℕ) → AreSameNodes m.nodes.items a b ↔ IsSame ps a b
  pub count : length ends ≡ length ps
  pub rising : IsStrictlyIncreasing ends
  pub within : All (λ e. e < length m.nodes.items) ends
  pub ended : (n : ℕ) (p : Pattern) → slice_get ps n ≡ Some p →
      SameTexts (head_at (kept (heads_of_patterns ps) m.firsts.items) (slice_index_or ends n 0)) p.items.items
