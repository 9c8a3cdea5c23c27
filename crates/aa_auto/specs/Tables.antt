-- What an automaton is, and what it has to do with its patterns.
-- Source: apparmor.d(5), "Globbing"; subset construction.
use Rattle.std.specs.Prelude.{◌≡◌, ℕ, ◌+◌, ◌*◌, ◌<◌, ◌≤◌, ◌↔◌, Some, List, [], ◌∷◌, ◌++◌, length, All, Contains, slice_get, slice_index, slice_index_or}
use Rattle.std.specs.List.Sorted.{IsStrictlyIncreasing}
use Rattle.aa_pattern.specs.declared.pattern.Pattern.{Pattern}
use Rattle.aa_pattern.specs.Globs.{Matches}
use Rattle.aa_pattern.specs.Limits.{most_states}
use Rattle.aa_pattern.specs.Places.{SamePlaces}
use Rattle.aa_auto.specs.Apart.{IsApart}
use Rattle.aa_auto.specs.Classes.{IsSame}

-- the class of each byte; `width` cells a row, the row after the bytes of each class; of each row, the number of its list; and the lists, each of
-- the numbers of the patterns that match
pub record Table : Type 0 where
  pub classes : List ℕ
  pub width : ℕ
  pub cells : List ℕ
  pub listed : List ℕ
  pub lists : List (List ℕ)

-- how many states there are
abbrev pub rows_of : Table → ℕ
rows_of t = length t.listed

-- how many classes of bytes there are
abbrev pub classes_of : Table → ℕ
classes_of t = t.width

-- the number of a state's list
abbrev pub list_number : Table → ℕ → ℕ
list_number t row = slice_index_or t.listed row 0

-- the list of a state: the numbers of the patterns that match
abbrev pub list_at : Table → ℕ → List ℕ
list_at t row = slice_index_or t.lists (list_number t row) []

-- the row that the text leads to
abbrev pub row_after : Table → ℕ → List ℕ → ℕ
row_after t row [] = row
row_after t row (b ∷ s) = row_after t (slice_index t.cells (t.width * row + slice_index t.classes b)) s

-- the state to which a text leads
abbrev pub place_of : Table → List ℕ → ℕ
place_of t s = row_after t 0 s

-- bytes
abbrev pub IsText : List ℕ → Type 0
IsText s = All (λ b. b < 256) s

-- the numbers of the patterns that match, rising
pub record ListsMatching (ps : List Pattern) (s : List ℕ) (numbers : List ℕ) : Type 0 where
  pub rising : IsStrictlyIncreasing numbers
  pub exact : (n : ℕ) → Contains numbers n ↔ ((p : Pattern) × (slice_get ps n ≡ Some p) × Matches p.items.items s)

-- there are n classes of bytes that no item tells apart: a byte of each, all different, and each byte is as one of them
pub record HasClasses (ps : List Pattern) (n : ℕ) : Type 0 where
  pub bytes : List ℕ
  pub many : length bytes ≡ n
  pub within : (c : ℕ) → c < n → slice_index bytes c < 256
  pub apart : (c d : ℕ) → c < n → d < n → IsSame ps (slice_index bytes c) (slice_index bytes d) → c ≡ d
  pub each : (b : ℕ) → b < 256 → (c : ℕ) × (c < n) × IsSame ps b (slice_index bytes c)

-- the automaton of these patterns: each text leads to the state of its places, and each state has the list of those that match
pub record IsAutomaton (ps : List Pattern) (t : Table) : Type 0 where
  -- each text is answered by the list of exactly the patterns that match it
  pub matching : (s : List ℕ) → IsText s → ListsMatching ps s (list_at t (place_of t s))
  -- two texts have one row exactly where they may stand at the same places
  pub places : (s u : List ℕ) → IsText s → IsText u → (place_of t s ≡ place_of t u) ↔ SamePlaces ps s u
  -- each row is some text's
  pub reached : (row : ℕ) → row < rows_of t → (s : List ℕ) × IsText s × (place_of t s ≡ row)
  -- and no text leads past the rows
  pub within : (s : List ℕ) → IsText s → place_of t s < rows_of t
  -- the row of a longer text depends on the row before and the byte alone
  pub appended : (s u : List ℕ) (b : ℕ) → IsText s → IsText u → b < 256 → place_of t s ≡ place_of t u → place_of t (s ++ b ∷ []) ≡ place_of t (u ++ b ∷ [])
  -- as many classes as the items tell apart
  pub classes : HasClasses ps (classes_of t)
  -- each text's row has a list; rows with equal lists share one, and each list is some text's
  pub numbered : (s : List ℕ) → IsText s → list_number t (place_of t s) < length t.lists
  pub apart : IsApart t.lists
  pub used : (n : ℕ) → n < length t.lists → (s : List ℕ) × IsText s × (list_number t (place_of t s) ≡ n)

-- bytes that no item tells apart lead from each text to the same places
abbrev pub BytesLeadAlike : List Pattern → Type 0
BytesLeadAlike ps = (a b : ℕ) → IsSame ps a b → (s : List ℕ) → SamePlaces ps (s ++ a ∷ []) (s ++ b ∷ [])

-- n texts of which no two may stand at the same places
pub record HasPlaces (ps : List Pattern) (n : ℕ) : Type 0 where
  pub texts : List (List ℕ)
  pub many : length texts ≡ n
  pub bytes : All IsText texts
  pub apart : (i j : ℕ) → i < n → j < n → SamePlaces ps (slice_index_or texts i []) (slice_index_or texts j []) → i ≡ j

-- whole rows, whose cells name rows, each with a list; neither rows nor lists are more than an automaton may have
pub record IsTable (t : Table) : Type 0 where
  pub some : 0 < rows_of t
  pub few_rows : rows_of t ≤ most_states
  pub few_lists : length t.lists ≤ most_states
  pub wide : 0 < t.width
  pub few : t.width ≤ 256
  pub bytes : length t.classes ≡ 256
  pub classed : (b : ℕ) → b < 256 → slice_index t.classes b < t.width
  pub whole : length t.cells ≡ t.width * rows_of t
  pub within : (row class : ℕ) → row < rows_of t → class < t.width → slice_index t.cells (t.width * row + class) < rows_of t
  pub numbered : (row : ℕ) → row < rows_of t → list_number t row < length t.lists
