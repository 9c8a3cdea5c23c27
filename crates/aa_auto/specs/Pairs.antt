-- Two automata side by side: the pairs of rows that texts lead to.
-- Source: product of two deterministic automata.
use Rattle.std.specs.Prelude.{◌≡◌, ℕ, ◌+◌, ◌*◌, ◌/◌, ◌%◌, ◌<◌, ◌≤◌, ◌⊎◌, ◌↔◌, ◌==◌, if◌then◌else◌, Option, Some, None, List, [], ◌∷◌}
use Rattle.std.specs.Prelude.{◌++◌, Contains, length, map, slice_index, slice_index_or}
use Rattle.aa_pattern.specs.declared.pattern.Pattern.{Pattern}
use Rattle.aa_pattern.specs.Globs.{Matches}
use Rattle.aa_auto.specs.Cells.{AreCellsBy}
use Rattle.aa_auto.specs.Classes.{IsSame}
use Rattle.aa_auto.specs.Tables.{Table, IsAutomaton, IsTable, IsText, ListsMatching, rows_of, row_after, place_of, list_number, list_at}

-- bytes are of one class exactly where no item of the patterns tells them apart
abbrev pub TellsBytes : List Pattern → Table → Type 0
TellsBytes ps t = (a b : ℕ) → a < 256 → b < 256 → (slice_index t.classes a ≡ slice_index t.classes b) ↔ IsSame ps a b

-- the automaton of the patterns, with the classes of bytes that these tell apart
pub record IsBuilt (ps : List Pattern) (t : Table) : Type 0 where
  pub automaton : IsAutomaton ps t
  pub bytes : TellsBytes ps t

-- of texts that the last pattern matches it lists exactly the patterns that match them; and it lists that pattern for no other text
pub record IsNarrowed (ps : List Pattern) (q : Pattern) (t : Table) : Type 0 where
  pub matching : (s : List ℕ) → IsText s → Matches q.items.items s → ListsMatching (ps ++ q ∷ []) s (list_at t (place_of t s))
  pub matched : (s : List ℕ) → IsText s → Contains (list_at t (place_of t s)) (length ps) → Matches q.items.items s
  pub within : (s : List ℕ) → IsText s → place_of t s < rows_of t
  pub numbered : (s : List ℕ) → IsText s → list_number t (place_of t s) < length t.lists
  pub apart : (i j : ℕ) → i < length t.lists → j < length t.lists → slice_index_or t.lists i [] ≡ slice_index_or t.lists j [] → i ≡ j

-- each number of the lists may be moved up by so much
abbrev pub CanMove : ℕ → List (List ℕ) → Type 0
CanMove moved lists = (i n : ℕ) → i < length lists → Contains (slice_index_or lists i []) n → moved + n < 65536

-- no two of the numbers are the same
abbrev pub AreDifferent : List ℕ → Type 0
AreDifferent keys = (i j : ℕ) → i < length keys → j < length keys → slice_index keys i ≡ slice_index keys j → i ≡ j

-- the number stands at n: it was there, or it was added behind
pub record AddsKey (old new : List ℕ) (key n : ℕ) : Type 0 where
  pub within : n < length new
  pub at : slice_index new n ≡ key
  pub grows : (new ≡ old) ⊎ (new ≡ old ++ key ∷ [])
  pub different : AreDifferent new

-- two numbers as one
abbrev pub pair : ℕ → ℕ → ℕ
pair a b = 4294967296 * a + b

-- the first of them
abbrev pub first : ℕ → ℕ
first key = key / 4294967296

-- the second
abbrev pub second : ℕ → ℕ
second key = key % 4294967296

-- the pair of a row of one automaton and a row of the other; where that is the dead one, the first row of the one stands for all
abbrev pub settled : Option ℕ → ℕ → ℕ → ℕ
settled None a b = pair a b
settled (Some dead) a b = if dead == b then pair 0 b else pair a b

-- the pair that a text leads to
abbrev pub pair_of : Option ℕ → Table → Table → List ℕ → ℕ
pair_of dead one other s = settled dead (place_of one s) (place_of other s)

-- the pair that a byte leads to from another
abbrev pub pair_after : Option ℕ → Table → Table → ℕ → ℕ → ℕ
pair_after dead one other key b = settled dead (row_after one (first key) (b ∷ [])) (row_after other (second key) (b ∷ []))

-- a pair of rows that are there
pub record IsPair (one other : Table) (key : ℕ) : Type 0 where
  pub row : first key < rows_of one
  pub beside : second key < rows_of other

-- so is each of these
abbrev pub ArePairsIn : Table → Table → List ℕ → Type 0
ArePairsIn one other keys = (row : ℕ) → row < length keys → IsPair one other (slice_index keys row)

-- each of these is a pair of lists that are there
abbrev pub AreListsIn : Table → Table → List ℕ → Type 0
AreListsIn one other numbers = (k : ℕ) → k < length numbers → (first (slice_index numbers k) < length one.lists) × (second (slice_index numbers k) < length other.lists)

-- each byte leads back to the row, and no pattern matches its texts
pub record IsDead (t : Table) (row : ℕ) : Type 0 where
  pub within : row < rows_of t
  pub stays : (b : ℕ) → b < 256 → row_after t row (b ∷ []) ≡ row
  pub lists : list_at t row ≡ []

-- the row, if there is one, is dead
abbrev pub IsDeadIf : Table → Option ℕ → Type 0
IsDeadIf t None = Unit {0}
IsDeadIf t (Some row) = IsDead t row

-- two tables, and the dead row of the second, if it is known
pub record AreSides (dead : Option ℕ) (one other : Table) : Type 0 where
  pub first_is : IsTable one
  pub second_is : IsTable other
  pub dead_is : IsDeadIf other dead

-- what is asked of a byte's classes in both automata, as one number
abbrev pub class_pair : Table → Table → ℕ → ℕ
class_pair one other b = 256 * slice_index one.classes b + slice_index other.classes b

-- different pairs, each some text's, the first one that of the empty text
pub record AreMet (dead : Option ℕ) (one other : Table) (keys : List ℕ) : Type 0 where
  pub some : 0 < length keys
  pub start : slice_index keys 0 ≡ pair_of dead one other []
  pub reached : (row : ℕ) → row < length keys → (s : List ℕ) × IsText s × (pair_of dead one other s ≡ slice_index keys row)
  pub different : AreDifferent keys

-- so many different pairs
pub record HasPairs (dead : Option ℕ) (one other : Table) (n : ℕ) : Type 0 where
  pub keys : List ℕ
  pub many : length keys ≡ n
  pub met : AreMet dead one other keys

-- the byte leads from the one pair to the other
pub record GoesTo (dead : Option ℕ) (one other : Table) (keys : List ℕ) (row byte next : ℕ) : Type 0 where
  pub within : next < length keys
  pub step : slice_index keys next ≡ pair_after dead one other (slice_index keys row) byte

-- the cells so far are right for the byte of each class
abbrev pub AreCells : Option ℕ → Table → Table → List ℕ → List ℕ → List ℕ → Type 0
AreCells dead one other keys bytes cells = AreCellsBy (GoesTo dead one other keys) bytes cells

-- later pairs are added behind
abbrev pub ExtendsKeys : List ℕ → List ℕ → Type 0
ExtendsKeys old new = (more : List ℕ) × (new ≡ old ++ more)

-- each pair has its cells
pub record ArePairs (dead : Option ℕ) (one other : Table) (keys bytes cells : List ℕ) : Type 0 where
  pub met : AreMet dead one other keys
  pub filled : AreCells dead one other keys bytes cells
  pub whole : length cells ≡ length bytes * length keys

-- the numbers of the lists of a pair's rows
abbrev pub list_pair : Table → Table → ℕ → ℕ
list_pair one other key = pair (list_number one (first key)) (list_number other (second key))

-- of the first n pairs: different pairs of lists, and of each pair of rows the number of its pair of lists; each is some one's
pub record AreListPairs (one other : Table) (keys : List ℕ) (n : ℕ) (numbers listed : List ℕ) : Type 0 where
  pub many : length listed ≡ n
  pub few : length numbers ≤ n
  pub at : (row : ℕ) → row < n → (slice_index listed row < length numbers) × (slice_index numbers (slice_index listed row) ≡ list_pair one other (slice_index keys row))
  pub used : (k : ℕ) → k < length numbers → (row : ℕ) × (row < n) × (slice_index listed row ≡ k)
  pub different : AreDifferent numbers

-- the numbers of the one, and behind them those of the other, moved up
abbrev pub joined : ℕ → List ℕ → List ℕ → List ℕ
joined moved xs ys = xs ++ map (λ n. moved + n) ys

-- the lists of a pair of lists
abbrev pub list_of_pair : ℕ → Table → Table → ℕ → List ℕ
list_of_pair moved one other key = joined moved (slice_index_or one.lists (first key) []) (slice_index_or other.lists (second key) [])

-- the table of the pairs: each text leads to the row of its pair, which has the joined lists of the pair's rows
pub record IsProduct (dead : Option ℕ) (moved : ℕ) (one other t : Table) : Type 0 where
  pub keys : List ℕ
  pub met : AreMet dead one other keys
  pub many : rows_of t ≡ length keys
  pub leads : (s : List ℕ) → IsText s → (place_of t s < length keys) × (slice_index keys (place_of t s) ≡ pair_of dead one other s)
  pub classed : (a b : ℕ) → a < 256 → b < 256 → (slice_index t.classes a ≡ slice_index t.classes b)
      ↔ ((slice_index one.classes a ≡ slice_index one.classes b) × (slice_index other.classes a ≡ slice_index other.classes b))
  pub bytes : List ℕ
  pub every : length bytes ≡ t.width
  pub named : (class : ℕ) → class < t.width → (slice_index bytes class < 256) × (slice_index t.classes (slice_index bytes class) ≡ class)
  pub small : (b : ℕ) → b < 256 → slice_index t.classes b < t.width
  pub numbers : List ℕ
  pub listed : AreListPairs one other keys (length keys) numbers t.listed
  pub lists : t.lists ≡ map (list_of_pair moved one other) numbers
