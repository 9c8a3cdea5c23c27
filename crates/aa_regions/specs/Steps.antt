-- How texts lead to the rows of an automaton, step by step.
-- Source: breadth-first search; own.
use Rattle.std.specs.Prelude.{◌≡◌, ℕ, ◌+◌, ◌<◌, ◌≤◌, ◌⊎◌, List, [], ◌∷◌, ◌++◌, Bool, false, true, not, count_by, length, slice_index_or}
use Rattle.aa_auto.specs.Tables.{Table, list_number, place_of, row_after, rows_of}
use Rattle.aa_regions.specs.declared.steps.Step.{Step}
use Rattle.aa_regions.specs.Wanted.{IsWanted, IsFrom}

-- a step that stands for none
abbrev pub no_step : Step
no_step = record { row = 0; from = 0; byte = 0; length = 0 }

-- the step with that number
abbrev pub step_at : List Step → ℕ → Step
step_at steps i = slice_index_or steps i no_step

-- the text with that number
abbrev pub text_at : List (List ℕ) → ℕ → List ℕ
text_at texts i = slice_index_or texts i []

-- a text that leads to the row was found
abbrev pub IsSeen : List Bool → ℕ → Type 0
IsSeen seen row = slice_index_or seen row false ≡ true

-- the text of step i: the head for the first, else that of an earlier step and one byte more
abbrev pub IsSpelled : List ℕ → ℕ → Step → List ℕ → List ℕ → Type 0
IsSpelled head i step before text = ((i ≡ 0) × (text ≡ head)) ⊎ ((step.from < i) × (text ≡ before ++ step.byte ∷ []))

-- step i, with the text of the step that it goes on from, and its own: that is a text of the kind, and leads to its row
pub record IsStep (t : Table) (head : List ℕ) (low max i : ℕ) (step : Step) (before text : List ℕ) : Type 0 where
  pub earlier : step.from ≤ i
  pub spelled : IsSpelled head i step before text
  pub wanted : IsWanted head low max text
  pub place : place_of t text ≡ step.row
  pub long : length text ≡ step.length

-- of two steps the later text isn't shorter
abbrev pub IsRising : List Step → Type 0
IsRising steps = (i j : ℕ) → i ≤ j → j < length steps → (step_at steps i).length ≤ (step_at steps j).length

-- each step goes on from an earlier one
abbrev pub AreEarlier : List Step → Type 0
AreEarlier steps = (i : ℕ) → 0 < i → i < length steps → (step_at steps i).from < i

-- the steps lead to rows of the automaton
abbrev pub AreRowsIn : Table → List Step → Type 0
AreRowsIn t steps = (i : ℕ) → i < length steps → (step_at steps i).row < rows_of t

-- each row has a list
abbrev pub AreNumbered : Table → List Step → Type 0
AreNumbered t steps = (i : ℕ) → i < length steps → list_number t (step_at steps i).row < length t.lists

-- the texts of the steps
abbrev pub AreSpelled : List ℕ → List Step → List (List ℕ) → Type 0
AreSpelled head steps texts = (i : ℕ) → i < length steps → IsSpelled head i (step_at steps i) (text_at texts (step_at steps i).from) (text_at texts i)

-- the steps with their texts; a row is seen where a step leads to it, and there are no more steps than seen rows
pub record IsTrail (t : Table) (head : List ℕ) (low max : ℕ) (seen : List Bool) (steps : List Step) : Type 0 where
  pub texts : List (List ℕ)
  pub many : length texts ≡ length steps
  pub some : 0 < length steps
  pub start : (step_at steps 0).row ≡ place_of t head
  pub each : (i : ℕ) → i < length steps → IsStep t head low max i (step_at steps i) (text_at texts (step_at steps i).from) (text_at texts i)
  pub rows : length seen ≡ rows_of t
  pub within : AreRowsIn t steps
  pub seen_by : (row : ℕ) → IsSeen seen row → (i : ℕ) × (i < length steps) × ((step_at steps i).row ≡ row)
  pub count : length steps + count_by not seen ≡ rows_of t
  pub rising : IsRising steps

-- no text is longer than that of step n by more than a byte, if there is that step
abbrev pub IsLevel : List Step → ℕ → Type 0
IsLevel steps n = n < length steps → (j : ℕ) → j < length steps → (step_at steps j).length ≤ (step_at steps n).length + 1

-- steps are added behind
pub record Extends (old steps : List Step) : Type 0 where
  pub more : List Step
  pub are : steps ≡ old ++ more

-- a step leads to the row, by a text of at most n bytes
abbrev pub IsWithin : List Step → ℕ → ℕ → Type 0
IsWithin steps row n = (j : ℕ) × (j < length steps) × ((step_at steps j).row ≡ row) × ((step_at steps j).length ≤ n)

-- behind step k, unless its text is as long as one may be, each byte leads to the row of a step, by no longer a text
abbrev pub IsFollowed : Table → ℕ → ℕ → List Step → ℕ → Type 0
IsFollowed t low max steps k =
    (step_at steps k).length < max → (b : ℕ) → IsFrom low b → IsWithin steps (row_after t (step_at steps k).row (b ∷ [])) ((step_at steps k).length + 1)

-- so behind the first n
abbrev pub AreFollowed : Table → ℕ → ℕ → List Step → ℕ → Type 0
AreFollowed t low max steps n = (k : ℕ) → k < n → k < length steps → IsFollowed t low max steps k

-- each text of the kind leads to the row of a step, and is no shorter than its text
abbrev pub ReachAll : Table → List ℕ → ℕ → ℕ → List Step → Type 0
ReachAll t head low max steps = (s : List ℕ) → IsWanted head low max s → IsWithin steps (place_of t s) (length s)
