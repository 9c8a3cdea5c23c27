-- Positions of which those with the same head are one.
use Rattle.std.specs.Prelude.{◌≡◌, ◌↔◌, ◌⊎◌, ℕ, ◌+◌, ◌-◌, ◌<◌, List, [], ◌∷◌, ◌++◌, All, length, map, slice_index_or}
use Rattle.aa_pattern.specs.declared.item.Item.{Item}
use Rattle.aa_pattern.specs.Globs.{Matches}
use Rattle.aa_pattern.specs.Steps.{IsSimple, Begins, Continues, IsSkippable}
use Rattle.aa_auto.specs.declared.nodes.Node.{Node}
use Rattle.aa_auto.specs.declared.nodes.Node.TheVariants.{Start, After, Same, Join}
use Rattle.aa_auto.specs.declared.merging.Merged.{Merged}
use Rattle.aa_auto.specs.Classes.{IsSameFor}
use Rattle.aa_auto.specs.Nodes.{head_at, SomeOf, AreSameNodes}

-- both match the same texts
abbrev pub SameTexts : List Item → List Item → Type 0
SameTexts g h = (t : List ℕ) → Matches g t ↔ Matches h t

-- the heads of these positions
abbrev pub kept : List (List Item) → List ℕ → List (List Item)
kept hs firsts = map (head_at hs) firsts

-- both items begin, and go on, with the byte, or neither does
abbrev pub AgreeOn : Item → Item → ℕ → Type 0
AgreeOn a b c = (Begins a c ↔ Begins b c) × (Continues a c ↔ Continues b c)

-- both items may be skipped or neither, and they take the same bytes
abbrev pub IsAlike : Item → Item → Type 0
IsAlike a b = (IsSkippable a ↔ IsSkippable b) × ((c : ℕ) → c < 256 → AgreeOn a b c)

-- the position is the other, or is named there as the same
abbrev pub IsAt : List Node → ℕ → ℕ → Type 0
IsAt nodes n source = (n ≡ source) ⊎ (slice_index_or nodes n Start ≡ Same source)

-- the position stands behind an item like this one
abbrev pub IsAfterLike : Node → Item → Type 0
IsAfterLike (After i) item = IsAlike i.now item
IsAfterLike _ item = ⊥

-- an item that is alike stands between the source and the position
abbrev pub IsBehind : List Node → ℕ → ℕ → Item → Type 0
IsBehind nodes n source item = (n < length nodes) × (0 < n) × IsAt nodes (n - 1) source × IsAfterLike (slice_index_or nodes n Start) item

-- the position joins these ends of branches
abbrev pub HasEnds : Node → List ℕ → Type 0
HasEnds (Join es) ends = es.items ≡ ends
HasEnds _ ends = ⊥

-- a choice whose branches end at these positions stands before the position
abbrev pub IsJoin : List Node → ℕ → List ℕ → Type 0
IsJoin nodes n ends = (n < length nodes) × HasEnds (slice_index_or nodes n Start) ends

-- nothing stands before the first position
abbrev pub HasStart : List Node → Type 0
HasStart nodes = (0 < length nodes) × (slice_index_or nodes 0 Start ≡ Start)

-- the node says which texts the head of the position n matches
abbrev pub Tells : List (List Item) → ℕ → Node → Type 0
Tells ks n Start = SameTexts (head_at ks n) []
Tells ks n (After item) = IsSimple item.now × (0 < n) × SameTexts (head_at ks n) (head_at ks (n - 1) ++ item.now ∷ [])
Tells ks n (Same p) = (p < n) × SameTexts (head_at ks n) (head_at ks p)
Tells ks n (Join ends) = All (λ e. e < n) ends.items × ((t : List ℕ) → Matches (head_at ks n) t ↔ SomeOf ks ends.items t)

-- each node tells its texts, where hs are the heads of the patterns' positions
pub record IsMerging (hs : List (List Item)) (nodes : List Node) (firsts : List ℕ) : Type 0 where
  pub count : length firsts ≡ length nodes
  pub inside : All (λ f. f < length hs) firsts
  pub tells : (m : ℕ) → m < length nodes → Tells (kept hs firsts) m (slice_index_or nodes m Start)

-- each head has the texts of one that is kept
abbrev pub AreMet : List (List Item) → List (List Item) → Type 0
AreMet hs ks = (n : ℕ) → n < length hs → (m : ℕ) × (m < length ks) × SameTexts (head_at hs n) (head_at ks m)

-- a position for each of these heads, where those with the same one are one
pub record IsMerged (hs : List (List Item)) (m : Merged) : Type 0 where
  pub merging : IsMerging hs m.nodes.items m.firsts.items
  pub met : AreMet hs (kept hs m.firsts.items)
  pub many : m.many ≡ length hs

-- each position has its head's number
abbrev pub IsWhole : Merged → Type 0
IsWhole m = length m.firsts.items ≡ length m.nodes.items

-- the position has the texts of h
abbrev pub Names : List (List Item) → Merged → ℕ → List Item → Type 0
Names hs m n h = (n < length m.nodes.items) × SameTexts h (head_at (kept hs m.firsts.items) n)

-- a text is told exactly where the head of one of the positions matches it
pub record AreEnds (hs : List (List Item)) (m : Merged) (ends : List ℕ) (Told : List ℕ → Type 0) : Type 0 where
  pub within : All (λ e. e < length m.nodes.items) ends
  pub told : (t : List ℕ) → Told t ↔ SomeOf (kept hs m.firsts.items) ends t

-- one more position of the patterns was counted
pub record Counts (old new : Merged) : Type 0 where
  pub nodes : new.nodes ≡ old.nodes
  pub firsts : new.firsts ≡ old.firsts
  pub many : new.many ≡ old.many + 1

-- a node was added
pub record Pushes (old new : Merged) (node : Node) (first : ℕ) : Type 0 where
  pub nodes : new.nodes.items ≡ old.nodes.items ++ node ∷ []
  pub firsts : new.firsts.items ≡ old.firsts.items ++ first ∷ []
  pub many : new.many ≡ old.many

-- the last position is the source, or it is named there as the same
abbrev pub Goes : Merged → Merged → ℕ → Type 0
Goes old new source =
    ((new ≡ old) × (source + 1 ≡ length old.nodes.items))
    ⊎ Pushes old new (Same source) (slice_index_or old.firsts.items source 0)

-- numbers were added
abbrev pub Longer : List ℕ → List ℕ → Type 0
Longer old new = (more : List ℕ) × (new ≡ old ++ more)

-- Where h is as `If` says, its `heads` were added, and then it is as `Then` says. Bytes are told apart as before, and where they aren't `Same`.
pub record Grows (old new : Merged) (If : List (List Item) → List Item → Type 0) (heads : List Item → List (List Item))
    (Then : List (List Item) → List Item → Type 0) (Same : ℕ → ℕ → Type 0) : Type 0 where
  pub whole : IsWhole new
  pub longer : Longer old.firsts.items new.firsts.items
  pub merged : (hs : List (List Item)) (h : List Item) → IsMerged hs old → If hs h → IsMerged (hs ++ heads h) new × Then (hs ++ heads h) h
  pub same : (a b : ℕ) → AreSameNodes new.nodes.items a b ↔ (AreSameNodes old.nodes.items a b × Same a b)

-- all pairs of bytes
abbrev pub IsAnyPair : ℕ → ℕ → Type 0
IsAnyPair a b = Unit {0}

-- the position of the empty head
abbrev pub AddsStart : Merged → Merged → ℕ → Type 0
AddsStart old new n = (n < length new.nodes.items) × Grows old new (λ hs h. h ≡ []) (λ h. h ∷ []) (λ hs h. Names hs new n h) IsAnyPair

-- the position behind the source and an item
abbrev pub AddsSimple : Merged → Merged → ℕ → Item → ℕ → Type 0
AddsSimple old new source item n =
    (n < length new.nodes.items)
    × Grows old new (λ hs h. Names hs old source h) (λ h. (h ++ item ∷ []) ∷ []) (λ hs h. Names hs new n (h ++ item ∷ [])) (IsSameFor item)

-- the source once more
abbrev pub AddsSame : Merged → Merged → ℕ → Type 0
AddsSame old new source = Grows old new (λ hs h. Names hs old source h) (λ h. h ∷ []) (λ hs h. Names hs new source h) IsAnyPair

-- the position whose head matches where that of one of these does
abbrev pub AddsJoin : Merged → Merged → List ℕ → ℕ → Type 0
AddsJoin old new ends n =
    (n < length new.nodes.items)
    × Grows old new (λ hs h. AreEnds hs old ends (Matches h)) (λ h. h ∷ []) (λ hs h. Names hs new n h) IsAnyPair

-- a new position with the texts of the source
abbrev pub AddsEnd : Merged → Merged → ℕ → ℕ → Type 0
AddsEnd old new source n =
    (n ≡ length old.nodes.items) × (n < length new.nodes.items)
    × Grows old new (λ hs h. Names hs old source h) (λ h. []) (λ hs h. Names hs new n h) IsAnyPair
