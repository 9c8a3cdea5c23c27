-- The sets of positions that were found so far.
use Rattle.std.specs.Prelude.{◌≡◌, ℕ, ◌*◌, ◌<◌, ◌⊎◌, Option, List, [], ◌∷◌, ◌++◌, length, slice_index_or}
use Rattle.aa_auto.specs.declared.net.Net.{Net}
use Rattle.aa_auto.specs.Apart.{IsApart}
use Rattle.aa_auto.specs.Cells.{AreCellsBy}
use Rattle.aa_auto.specs.Listed.{Listing, IsListing, AddsRow, row_lists}
use Rattle.aa_auto.specs.Nets.{patterns_of, kept_of}
use Rattle.aa_auto.specs.Spots.{IsSpotsOf, Leads, Stood}
use Rattle.aa_auto.specs.Tables.{IsText, ListsMatching}

-- the new set is that of each text that the byte leads to from one that the old set is of; with no byte, of the empty text
pub record Follows (net : Net) (byte : Option ℕ) (old new : List ℕ) : Type 0 where
  pub spots : (s t : List ℕ) → Leads byte s t → Stood byte (kept_of net) old s → IsSpotsOf (kept_of net) new t

-- the numbers of the patterns that match each text that the set is of
pub record Lists (net : Net) (set numbers : List ℕ) : Type 0 where
  pub lists : (t : List ℕ) → IsSpotsOf (kept_of net) set t → ListsMatching (patterns_of net) t numbers

-- the set was there, or it was added with its numbers
abbrev pub TakesSet : Net → List ℕ → List (List ℕ) → List (List ℕ) → Listing → Listing → Type 0
TakesSet net set old new was_lists lists =
    ((new ≡ old) × (lists ≡ was_lists))
    ⊎ ((numbers : List ℕ) × (new ≡ old ++ set ∷ []) × AddsRow was_lists lists numbers × Lists net set numbers)

-- different sets, each of some text, the first one of the empty text
pub record AreReached (net : Net) (sets : List (List ℕ)) : Type 0 where
  pub some : 0 < length sets
  pub start : IsSpotsOf (kept_of net) (slice_index_or sets 0 []) []
  pub reached : (row : ℕ) → row < length sets → (s : List ℕ) × IsText s × IsSpotsOf (kept_of net) (slice_index_or sets row []) s
  pub apart : IsApart sets

-- the byte leads from the one row to the other
pub record Goes (net : Net) (sets : List (List ℕ)) (row byte next : ℕ) : Type 0 where
  pub within : next < length sets
  pub step : (s : List ℕ) → IsSpotsOf (kept_of net) (slice_index_or sets row []) s → IsSpotsOf (kept_of net) (slice_index_or sets next []) (s ++ byte ∷ [])

-- the cells so far are right for the byte of each class
abbrev pub AreFilled : Net → List (List ℕ) → List ℕ → List ℕ → Type 0
AreFilled net sets bytes cells = AreCellsBy (Goes net sets) bytes cells

-- later sets are added behind
abbrev pub Extends : List (List ℕ) → List (List ℕ) → Type 0
Extends old new = (more : List (List ℕ)) × (new ≡ old ++ more)

-- of each set, the numbers of the patterns that match
pub record AreListed (net : Net) (sets : List (List ℕ)) (l : Listing) : Type 0 where
  pub many : length l.listed ≡ length sets
  pub listing : IsListing l
  pub exact : (row : ℕ) (s : List ℕ) → row < length sets → IsSpotsOf (kept_of net) (slice_index_or sets row []) s → ListsMatching (patterns_of net) s (slice_index_or (row_lists l) row [])

-- each set has its cells and its list
pub record IsExplored (net : Net) (sets : List (List ℕ)) (bytes cells : List ℕ) (l : Listing) : Type 0 where
  pub reached : AreReached net sets
  pub filled : AreFilled net sets bytes cells
  pub listed : AreListed net sets l
  pub whole : length cells ≡ length bytes * length sets
