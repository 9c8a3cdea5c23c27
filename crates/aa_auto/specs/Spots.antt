-- Sets of positions, as rising numbers, and what one byte does to them.
use Rattle.std.specs.Prelude.{◌≡◌, ℕ, ◌+◌, ◌<◌, ◌↔◌, ◌⊎◌, Option, Some, None, List, [], ◌∷◌, ◌++◌, length, Contains, slice_index_or}
use Rattle.std.specs.List.Sorted.{IsStrictlyIncreasing}
use Rattle.aa_pattern.specs.declared.item.Item.{Item}
use Rattle.aa_pattern.specs.Globs.{Matches}
use Rattle.aa_auto.specs.declared.nodes.Node.{Node}
use Rattle.aa_auto.specs.declared.nodes.Node.TheVariants.{Start, After, Same, Join}
use Rattle.aa_pattern.specs.Steps.{Begins, Continues, IsSkippable}
use Rattle.aa_auto.specs.Nodes.{head_at}

-- the positions whose head the text matches
abbrev pub Stands : List (List Item) → List ℕ → List ℕ → Type 0
Stands hs set s = (n : ℕ) → Contains set n ↔ ((n < length hs) × Matches (head_at hs n) s)

-- the set holds exactly the positions whose heads match the text
pub record IsSpotsOf (hs : List (List Item)) (set : List ℕ) (s : List ℕ) : Type 0 where
  pub rising : IsStrictlyIncreasing set
  pub exact : Stands hs set s

-- where the head of p matches, that of n does
abbrev pub Jumps : Node → ℕ → ℕ → Type 0
Jumps Start n p = ⊥
Jumps (After i) n p = IsSkippable i.now × (n ≡ p + 1)
Jumps (Same q) n p = p ≡ q
Jumps (Join ends) n p = Contains ends.items p

-- the number was added to the rows of these positions
pub record AddsToRows (old new : List (List ℕ)) (positions : List ℕ) (number : ℕ) : Type 0 where
  pub many : length new ≡ length old
  pub exact : (p n : ℕ) → Contains (slice_index_or new p []) n ↔ (Contains (slice_index_or old p []) n ⊎ ((n ≡ number) × Contains positions p))

-- the position was added to the rows of those that lead to it without a byte
pub record AddsJumps (old new : List (List ℕ)) (node : Node) (position : ℕ) : Type 0 where
  pub many : length new ≡ length old
  pub exact : (p n : ℕ) → Contains (slice_index_or new p []) n ↔ (Contains (slice_index_or old p []) n ⊎ ((n ≡ position) × Jumps node position p))

-- there are so many rows, all empty
pub record AreEmpty (rows : List (List ℕ)) (many : ℕ) : Type 0 where
  pub count : length rows ≡ many
  pub empty : (p n : ℕ) → Contains (slice_index_or rows p []) n → ⊥

-- the row p lists the positions that p leads to without a byte
pub record AreJumps (nodes : List Node) (rows : List (List ℕ)) : Type 0 where
  pub many : length rows ≡ length nodes
  pub exact : (p n : ℕ) → Contains (slice_index_or rows p []) n ↔ ((n < length nodes) × Jumps (slice_index_or nodes n Start) n p)

-- the byte leads to n, or with no byte, n is a beginning
abbrev pub Seeds : Option ℕ → List ℕ → Node → ℕ → Type 0
Seeds None old Start n = Unit {0}
Seeds None old _ n = ⊥
Seeds (Some b) old (After i) n = ((p : ℕ) × (n ≡ p + 1) × Contains old p × Begins i.now b) ⊎ (Contains old n × Continues i.now b)
Seeds (Some b) old _ n = ⊥

-- the positions that a byte leads to, or those of the empty text, before what may be skipped is skipped
pub record AreSeeds (nodes : List Node) (byte : Option ℕ) (old seeds : List ℕ) : Type 0 where
  pub rising : IsStrictlyIncreasing seeds
  pub exact : (n : ℕ) → Contains seeds n ↔ ((n < length nodes) × Seeds byte old (slice_index_or nodes n Start) n)

-- t is the empty text, or s and one more byte
abbrev pub Leads : Option ℕ → List ℕ → List ℕ → Type 0
Leads None s t = t ≡ []
Leads (Some b) s t = t ≡ s ++ b ∷ []

-- where there was a set, it is that of s
abbrev pub Stood : Option ℕ → List (List Item) → List ℕ → List ℕ → Type 0
Stood None hs old s = Unit {0}
Stood (Some b) hs old s = Stands hs old s

-- the item before n may begin, or go on, with the byte
abbrev pub BeginsNode : Node → ℕ → Type 0
BeginsNode (After i) b = Begins i.now b
BeginsNode _ b = ⊥

-- the byte goes on in the item before the position
abbrev pub ContinuesNode : Node → ℕ → Type 0
ContinuesNode (After i) b = Continues i.now b
ContinuesNode _ b = ⊥

-- the byte begins the item before the position with that number
abbrev pub BeginsAt : List Node → ℕ → ℕ → Type 0
BeginsAt nodes n b = BeginsNode (slice_index_or nodes n Start) b

-- the byte goes on in the item before the position with that number
abbrev pub ContinuesAt : List Node → ℕ → ℕ → Type 0
ContinuesAt nodes n b = ContinuesNode (slice_index_or nodes n Start) b

-- two bytes lead to the same positions from this one
abbrev pub LeadsAlike : List Node → ℕ → ℕ → ℕ → Type 0
LeadsAlike nodes a b p = (BeginsAt nodes (p + 1) a ↔ BeginsAt nodes (p + 1) b) × (ContinuesAt nodes p a ↔ ContinuesAt nodes p b)

-- so from each of these
abbrev pub LeadAlike : List Node → ℕ → ℕ → List ℕ → Type 0
LeadAlike nodes a b set = (p : ℕ) → Contains set p → LeadsAlike nodes a b p

-- the positions that the byte leads to from these
pub record MovesFrom (nodes : List Node) (byte : ℕ) (old new : List ℕ) : Type 0 where
  pub rising : IsStrictlyIncreasing new
  pub exact : (n : ℕ) → Contains new n ↔ (((p : ℕ) × Contains old p × (n ≡ p + 1) × BeginsAt nodes n byte) ⊎ (Contains old n × ContinuesAt nodes n byte))

-- the positions that the byte leads to from this one were added
pub record AddsMoves (nodes : List Node) (byte start : ℕ) (old new : List ℕ) : Type 0 where
  pub rising : IsStrictlyIncreasing new
  pub exact : (n : ℕ) → Contains new n ↔ (Contains old n ⊎ ((n ≡ start + 1) × BeginsAt nodes n byte) ⊎ ((n ≡ start) × ContinuesAt nodes n byte))

-- the position at the start of a pattern
abbrev pub IsStart : Node → Type 0
IsStart Start = Unit {0}
IsStart _ = ⊥

-- the first k positions that nothing stands before
pub record AreStarts (nodes : List Node) (k : ℕ) (starts : List ℕ) : Type 0 where
  pub rising : IsStrictlyIncreasing starts
  pub exact : (n : ℕ) → Contains starts n ↔ ((n < k) × IsStart (slice_index_or nodes n Start))

-- the jumps to the first k positions
pub record AreJumpsSoFar (nodes : List Node) (k : ℕ) (rows : List (List ℕ)) : Type 0 where
  pub many : length rows ≡ length nodes
  pub exact : (p n : ℕ) → Contains (slice_index_or rows p []) n ↔ ((n < k) × Jumps (slice_index_or nodes n Start) n p)
