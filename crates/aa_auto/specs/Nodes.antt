-- What stands before each position, said by the positions before it.
use Rattle.std.specs.Borrow.{Bor}
use Rattle.std.specs.Prelude.{◌≡◌, map, ℕ, ◌<◌, ◌↔◌, List, [], ◌∷◌, ◌++◌, length, Contains, Vec, All, slice_index_or}
use Rattle.std.specs.Global.{Global}
use Rattle.aa_pattern.specs.declared.item.Item.{Item}
use Rattle.aa_pattern.specs.declared.pattern.Pattern.{Pattern}
use Rattle.aa_pattern.specs.Globs.{Matches, SomeMatches}
use Rattle.aa_auto.specs.declared.nodes.Node.{Node}
use Rattle.aa_auto.specs.declared.nodes.Node.TheVariants.{Start, After, Same, Join}
use Rattle.aa_pattern.specs.Steps.{Begins, Continues}

-- the patterns that are pointed to
abbrev pub pointed : List (Bor Pattern) → List Pattern
pointed patterns = map (λ (p : Bor Pattern). p.now) patterns

-- the head of the position
abbrev pub head_at : List (List Item) → ℕ → List Item
head_at hs n = slice_index_or hs n []

-- the head of one of the positions matches
abbrev pub SomeOf : List (List Item) → List ℕ → List ℕ → Type 0
SomeOf hs positions t = (p : ℕ) × Contains positions p × Matches (head_at hs p) t

-- h and one of the sequences behind it match
abbrev pub SomeEnds : List Item → List (Vec Item Global) → List ℕ → Type 0
SomeEnds h branches t = (a : List ℕ) × (b : List ℕ) × (t ≡ a ++ b) × Matches h a × SomeMatches branches b

-- the positions that the node of n names stand before n
abbrev pub HasSources : Node → ℕ → Type 0
HasSources Start n = Unit {0}
HasSources (After item) n = 0 < n
HasSources (Same p) n = p < n
HasSources (Join ends) n = All (λ e. e < n) ends.items

-- each position follows positions before it
abbrev pub HaveSources : List Node → Type 0
HaveSources nodes = (n : ℕ) → n < length nodes → HasSources (slice_index_or nodes n Start) n

-- the item before the position begins, and goes on, with both bytes or with neither
abbrev pub IsSameNode : Node → ℕ → ℕ → Type 0
IsSameNode (After item) a b = (Begins item.now a ↔ Begins item.now b) × (Continues item.now a ↔ Continues item.now b)
IsSameNode _ a b = Unit {0}

-- no position tells the two bytes apart
abbrev pub AreSameNodes : List Node → ℕ → ℕ → Type 0
AreSameNodes [] a b = Unit {0}
AreSameNodes (node ∷ nodes) a b = IsSameNode node a b × AreSameNodes nodes a b
