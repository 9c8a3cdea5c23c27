-- What is noted of a row's positions, so that two bytes are compared without asking each of them.
use Rattle.std.specs.Prelude.{◌≡◌, ◌↔◌, ◌⊎◌, ℕ, ◌+◌, ◌<◌, List, Contains, length, slice_index_or}
use Rattle.aa_pattern.specs.Globs.{IsNameByte}
use Rattle.aa_auto.specs.declared.nodes.Node.{Node}
use Rattle.aa_auto.specs.declared.nodes.Node.TheVariants.{Start}
use Rattle.aa_auto.specs.Spots.{BeginsNode, ContinuesNode}

-- a byte without the mark: no item names it there, and no star tells it from others
abbrev pub IsFree : ℕ → List ℕ → ℕ → Type 0
IsFree mark named b = (b < 256) × (slice_index_or named b mark ≡ mark → ⊥)

-- what stands before the node tells no two such bytes apart, or the position is asked
abbrev pub IsNoted : Node → ℕ → ℕ → List ℕ → List ℕ → Type 0
IsNoted node start mark named asked = (a b : ℕ) → IsFree mark named a → IsFree mark named b → Contains asked start ⊎ (BeginsNode node a ↔ BeginsNode node b)

-- what stands before the node goes on with both of two such bytes or with neither
abbrev pub GoesOnAlike : Node → ℕ → List ℕ → Type 0
GoesOnAlike node mark named = (a b : ℕ) → IsFree mark named a → IsFree mark named b → ContinuesNode node a ↔ ContinuesNode node b

-- the bytes that stars tell from others were noted
pub record NotesStars (mark : ℕ) (old new : List ℕ) : Type 0 where
  pub many : length new ≡ length old
  pub free : (b : ℕ) → IsFree mark new b → IsFree mark old b
  pub names : (b : ℕ) → IsFree mark new b → IsNameByte b

-- the node before the position was noted
pub record NotesOwn (node : Node) (mark : ℕ) (old new : List ℕ) : Type 0 where
  pub many : length new ≡ length old
  pub free : (b : ℕ) → IsFree mark new b → IsFree mark old b
  pub alike : GoesOnAlike node mark new

-- the node behind the position was noted
pub record NotesNext (node : Node) (start mark : ℕ) (old new : List ℕ) (was asked : List ℕ) : Type 0 where
  pub many : length new ≡ length old
  pub free : (b : ℕ) → IsFree mark new b → IsFree mark old b
  pub kept : (n : ℕ) → Contains was n → Contains asked n
  pub from : (n : ℕ) → Contains asked n → Contains was n ⊎ (n ≡ start)
  pub noted : IsNoted node start mark new asked

-- both were
pub record Notes (nodes : List Node) (start mark : ℕ) (old new : List ℕ) (was asked : List ℕ) : Type 0 where
  pub next : NotesNext (slice_index_or nodes (start + 1) Start) start mark old new was asked
  pub alike : GoesOnAlike (slice_index_or nodes start Start) mark new

-- so were those before and behind all positions of the set
pub record AreNoted (nodes : List Node) (set : List ℕ) (mark : ℕ) (named : List ℕ) (asked : List ℕ) : Type 0 where
  pub many : length named ≡ 256
  pub from : (n : ℕ) → Contains asked n → Contains set n
  pub noted : (p : ℕ) → Contains set p → IsNoted (slice_index_or nodes (p + 1) Start) p mark named asked
  pub alike : (p : ℕ) → Contains set p → GoesOnAlike (slice_index_or nodes p Start) mark named
