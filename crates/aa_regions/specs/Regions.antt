-- Regions of texts: which patterns match, with a shortest text.
-- Source: own.
use Rattle.std.specs.Prelude.{◌≡◌, ℕ, ◌<◌, ◌≤◌, List, [], Bool, true, false, map, length, Contains, slice_index_or}
use Rattle.aa_pattern.specs.declared.pattern.Pattern.{Pattern}
use Rattle.aa_auto.specs.Apart.{IsApart}
use Rattle.aa_auto.specs.Tables.{Table, IsText, ListsMatching, list_at, list_number}
use Rattle.aa_model.specs.Requests.{is_path}
use Rattle.aa_regions.specs.declared.regions.Region.{Region}
use Rattle.aa_regions.specs.declared.steps.Step.{Step}
use Rattle.aa_regions.specs.Wanted.{IsWanted}
use Rattle.aa_regions.specs.Steps.{step_at, text_at, AreSpelled}

-- the witness is of the kind, exactly these patterns match it, and no shorter text of the kind has the same
pub record IsRegion (ps : List Pattern) (head : List ℕ) (low max : ℕ) (r : Region) : Type 0 where
  pub wanted : IsWanted head low max r.witness
  pub lists : ListsMatching ps r.witness r.numbers
  pub shortest : (s : List ℕ) → IsWanted head low max s → ListsMatching ps s r.numbers → length r.witness ≤ length s

-- each text of the kind is of a region, and no two regions have the same patterns
pub record AreRegions (ps : List Pattern) (head : List ℕ) (low max : ℕ) (rs : List Region) : Type 0 where
  pub each : (r : Region) → Contains rs r → IsRegion ps head low max r
  pub all : (s : List ℕ) → IsWanted head low max s → (r : Region) × Contains rs r × ListsMatching ps s r.numbers
  pub apart : IsApart (map (λ r. r.numbers) rs)

-- exactly these patterns match the witness, and no shorter text has the same
pub record IsTextRegion (ps : List Pattern) (r : Region) : Type 0 where
  pub text : IsText r.witness
  pub lists : ListsMatching ps r.witness r.numbers
  pub shortest : (s : List ℕ) → IsText s → ListsMatching ps s r.numbers → length r.witness ≤ length s

-- each text is of a region, and no two regions have the same patterns
pub record AreTextRegions (ps : List Pattern) (rs : List Region) : Type 0 where
  pub each : (r : Region) → Contains rs r → IsTextRegion ps r
  pub all : (s : List ℕ) → IsText s → (r : Region) × Contains rs r × ListsMatching ps s r.numbers
  pub apart : IsApart (map (λ r. r.numbers) rs)

-- a path that can be asked for, of bytes
abbrev pub IsAsked : List ℕ → Type 0
IsAsked s = IsText s × (is_path s ≡ true)

-- the witness is a path that can be asked for, exactly these patterns match it, and no shorter path that can be asked for has the same
pub record IsPathRegion (ps : List Pattern) (r : Region) : Type 0 where
  pub asked : IsAsked r.witness
  pub lists : ListsMatching ps r.witness r.numbers
  pub shortest : (s : List ℕ) → IsAsked s → ListsMatching ps s r.numbers → length r.witness ≤ length s

-- each path that can be asked for is of a region, and no two regions have the same patterns
pub record ArePathRegions (ps : List Pattern) (rs : List Region) : Type 0 where
  pub each : (r : Region) → Contains rs r → IsPathRegion ps r
  pub all : (s : List ℕ) → IsAsked s → (r : Region) × Contains rs r × ListsMatching ps s r.numbers
  pub apart : IsApart (map (λ r. r.numbers) rs)

-- the list of that number has a region
abbrev pub IsTaken : List Bool → ℕ → Type 0
IsTaken taken n = slice_index_or taken n false ≡ true

-- the region of step k: the list of its row, and its text; no step to a row with that list has a shorter one
pub record IsTakenOf (t : Table) (head : List ℕ) (steps : List Step) (k : ℕ) (r : Region) : Type 0 where
  pub within : k < length steps
  pub numbers : r.numbers ≡ list_at t (step_at steps k).row
  pub text : (texts : List (List ℕ)) → AreSpelled head steps texts → r.witness ≡ text_at texts k
  pub first : (j : ℕ) → j < length steps → list_number t (step_at steps j).row ≡ list_number t (step_at steps k).row
      → (step_at steps k).length ≤ (step_at steps j).length

-- the regions of the first n steps
pub record AreCollected (t : Table) (head : List ℕ) (steps : List Step) (n : ℕ) (taken : List Bool) (rs : List Region) : Type 0 where
  pub many : length taken ≡ length t.lists
  pub each : (r : Region) → Contains rs r → (k : ℕ) × (k < n) × IsTaken taken (list_number t (step_at steps k).row) × IsTakenOf t head steps k r
  pub all : (list : ℕ) → IsTaken taken list → (r : Region) × Contains rs r × (r.numbers ≡ slice_index_or t.lists list [])
  pub marked : (k : ℕ) → k < n → IsTaken taken (list_number t (step_at steps k).row)
  pub apart : IsApart (map (λ r. r.numbers) rs)
