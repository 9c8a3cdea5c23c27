-- Bytes that are divided into classes.
use Rattle.std.specs.Prelude.{◌≡◌, ◌≢◌, ◌↔◌, ◌⊎◌, ℕ, ◌+◌, ◌*◌, ◌<◌, ◌≤◌, Bool, false, true, IsTrue, if◌then◌else◌, List, [], ◌∷◌, ◌++◌, length, slice_index, slice_index_or}
use Rattle.aa_pattern.specs.declared.item.Item.{Item, Byte, One, Run, RunOne, Deep, DeepOne}
use Rattle.aa_pattern.specs.Globs.{IsNonzeroByte}
use Rattle.aa_pattern.specs.declared.pattern.Pattern.{Pattern}
use Rattle.aa_auto.specs.declared.nodes.Node.{Node}
use Rattle.aa_auto.specs.declared.nodes.Node.TheVariants.{After}
use Rattle.aa_pattern.specs.Steps.{Begins, Continues}
use Rattle.aa_auto.specs.Classes.{IsSame}
use Rattle.aa_auto.specs.Nodes.{IsSameNode, AreSameNodes}

-- the class is that of an earlier byte with the same key, or a new one
abbrev pub GivesClass : List ℕ → List ℕ → List ℕ → ℕ → ℕ → Type 0
GivesClass keys old new byte class =
    ((new ≡ old) × (class < length old) × (slice_index keys (slice_index old class) ≡ slice_index keys byte))
    ⊎ ((new ≡ old ++ byte ∷ []) × (class ≡ length old) × ((k : ℕ) → k < length old → slice_index keys (slice_index old k) ≢ slice_index keys byte))

-- of the first n bytes, those with one key are of one class; `bytes` has a byte of each class
pub record Divides (keys : List ℕ) (n : ℕ) (of bytes : List ℕ) : Type 0 where
  pub many : length of ≡ n
  pub few : length bytes ≤ n
  pub classed : (a : ℕ) → a < n → (slice_index of a < length bytes) × (slice_index keys (slice_index bytes (slice_index of a)) ≡ slice_index keys a)
  pub named : (c : ℕ) → c < length bytes → (slice_index bytes c < n) × (slice_index of (slice_index bytes c) ≡ c)
  pub apart : (c d : ℕ) → c < length bytes → d < length bytes → slice_index keys (slice_index bytes c) ≡ slice_index keys (slice_index bytes d) → c ≡ d

-- each byte is of a class, and each class has its byte
pub record IsDivision (of bytes : List ℕ) : Type 0 where
  pub many : length of ≡ 256
  pub few : length bytes ≤ 256
  pub within : (a : ℕ) → a < 256 → slice_index of a < length bytes
  pub named : (c : ℕ) → c < length bytes → (slice_index bytes c < 256) × (slice_index of (slice_index bytes c) ≡ c)

-- both bytes begin the item or neither, and both go on in it or neither
abbrev pub IsSameItem : Item → ℕ → ℕ → Type 0
IsSameItem item a b = (Begins item a ↔ Begins item b) × (Continues item a ↔ Continues item b)

-- equal keys are of bytes of one class that the item doesn't tell apart
abbrev pub IsKey : List ℕ → Item → ℕ → ℕ → Type 0
IsKey of item byte key =
    (x : Bool) × (y : Bool) × (IsTrue x ↔ Begins item byte) × (IsTrue y ↔ Continues item byte)
    × (key ≡ 4 * slice_index of byte + 2 * (if x then 1 else 0) + (if y then 1 else 0))

-- of the first n bytes
pub record AreKeys (of : List ℕ) (item : Item) (keys : List ℕ) (n : ℕ) : Type 0 where
  pub many : length keys ≡ n
  pub keyed : (b : ℕ) → b < n → IsKey of item b (slice_index keys b)

-- two bytes are of one class where they were before and the item doesn't tell them apart
pub record Refines (old of bytes : List ℕ) (item : Item) : Type 0 where
  pub division : IsDivision of bytes
  pub same : (a b : ℕ) → a < 256 → b < 256 → (slice_index of a ≡ slice_index of b) ↔ ((slice_index old a ≡ slice_index old b) × IsSameItem item a b)

-- the same of the item before a position
pub record RefinesBy (old of bytes : List ℕ) (node : Node) : Type 0 where
  pub division : IsDivision of bytes
  pub same : (a b : ℕ) → a < 256 → b < 256 → (slice_index of a ≡ slice_index of b) ↔ ((slice_index old a ≡ slice_index old b) × IsSameNode node a b)

-- a byte other than 0 whose class goes by another one, where there is room for one class more
pub record CanLeave (of bytes : List ℕ) (byte : ℕ) : Type 0 where
  pub some : 0 < byte
  pub few : length bytes < 256
  pub other : slice_index bytes (slice_index of byte) ≢ byte

-- two bytes are of one class where they were before, and neither is this byte or both are
pub record TakesOut (old of bytes : List ℕ) (byte : ℕ) : Type 0 where
  pub division : IsDivision of bytes
  pub same : (a b : ℕ) → a < 256 → b < 256 → (slice_index of a ≡ slice_index of b) ↔ ((slice_index old a ≡ slice_index old b) × ((a ≡ byte) ↔ (b ≡ byte)))

-- two bytes are of one class where no item before a position tells them apart
pub record AreClasses (nodes : List Node) (of bytes : List ℕ) : Type 0 where
  pub division : IsDivision of bytes
  pub same : (a b : ℕ) → a < 256 → b < 256 → (slice_index of a ≡ slice_index of b) ↔ AreSameNodes nodes a b

-- two bytes are of one class where no item of the patterns tells them apart
pub record AreClassesOf (ps : List Pattern) (of bytes : List ℕ) : Type 0 where
  pub division : IsDivision of bytes
  pub same : (a b : ℕ) → a < 256 → b < 256 → (slice_index of a ≡ slice_index of b) ↔ IsSame ps a b

-- the item before the position takes this byte and no other
abbrev pub TakesAlone : Node → ℕ → Type 0
TakesAlone (After item) b = (item.now ≡ Byte b) × IsNonzeroByte b
TakesAlone _ b = ⊥

-- each byte with a flag is the only one of its class
abbrev pub AreAlone : List ℕ → List Bool → Type 0
AreAlone of alone = (a b : ℕ) → a < 256 → b < 256 → slice_index_or alone a false ≡ true → slice_index of b ≡ slice_index of a → b ≡ a

-- a star or a question mark, which tells 0 and `/` from other bytes, and none of those apart
abbrev pub IsWild : Item → Type 0
IsWild One = Unit {0}
IsWild Run = Unit {0}
IsWild RunOne = Unit {0}
IsWild Deep = Unit {0}
IsWild DeepOne = Unit {0}
IsWild _ = ⊥

-- the item before the position tells 0 from all bytes but `/`, which has a flag
abbrev pub TellsZero : Node → List Bool → ℕ → Type 0
TellsZero (After item) alone b = (b ≡ 0) × IsWild item.now × (slice_index_or alone 47 false ≡ true)
TellsZero _ alone b = ⊥

-- the byte that the item before the position takes alone, or 0, may have a flag, too
pub record NotesAlone (node : Node) (old new : List Bool) : Type 0 where
  pub many : length new ≡ length old
  pub flags : (b : ℕ) → slice_index_or new b false ≡ true → (slice_index_or old b false ≡ true) ⊎ TakesAlone node b ⊎ TellsZero node old b
