-- Regions by the lists of an automaton.
-- Source: own.
use Rattle.std.specs.Prelude.{◌≡◌, ℕ, ◌<◌, ◌≤◌, List, [], ◌∷◌, ◌++◌, All, map, length, Contains}
use Rattle.aa_pattern.specs.declared.pattern.Pattern.{Pattern}
use Rattle.aa_pattern.specs.Globs.{Matches}
use Rattle.aa_auto.specs.Apart.{IsApart}
use Rattle.aa_auto.specs.Tables.{Table, IsText, ListsMatching, list_at, list_number, place_of}
use Rattle.aa_regions.specs.declared.regions.Region.{Region}
use Rattle.aa_regions.specs.Wanted.{IsFrom, IsWanted}
use Rattle.aa_regions.specs.Regions.{IsAsked, IsPathRegion}

-- each text's row has one of the lists, and no two of these are equal
pub record HasLists (t : Table) : Type 0 where
  pub numbered : (s : List ℕ) → IsText s → list_number t (place_of t s) < length t.lists
  pub apart : IsApart t.lists

-- the regions of the texts of a kind by the lists of their rows: each with such a list and a shortest text whose row has it
pub record AreRegionsBy (t : Table) (head : List ℕ) (low max : ℕ) (rs : List Region) : Type 0 where
  pub wanted : (r : Region) → Contains rs r → IsWanted head low max r.witness
  pub lists : (r : Region) → Contains rs r → list_at t (place_of t r.witness) ≡ r.numbers
  pub shortest : (r : Region) → Contains rs r → (s : List ℕ) → IsWanted head low max s → list_number t (place_of t s) ≡ list_number t (place_of t r.witness)
      → length r.witness ≤ length s
  pub all : (s : List ℕ) → IsWanted head low max s → (r : Region) × Contains rs r × (list_at t (place_of t s) ≡ r.numbers)
  pub apart : IsApart (map (λ r. r.numbers) rs)

-- each text that begins with the head and goes on with bytes of at least `low` has the row of one that isn't too long
abbrev pub HaveShort : Table → List ℕ → ℕ → ℕ → Type 0
HaveShort t head low max = (rest : List ℕ) → All (IsFrom low) rest → (u : List ℕ) × IsWanted head low max u × (place_of t u ≡ place_of t (head ++ rest))

-- the regions of the paths that the last pattern matches, among others of paths that it doesn't match: of those nothing is said but that they can be asked for
pub record ArePathRegionsWithin (ps : List Pattern) (q : Pattern) (rs : List Region) : Type 0 where
  pub asked : (r : Region) → Contains rs r → IsAsked r.witness
  pub each : (r : Region) → Contains rs r → Matches q.items.items r.witness → IsPathRegion (ps ++ q ∷ []) r
  pub all : (s : List ℕ) → IsAsked s → Matches q.items.items s → (r : Region) × Contains rs r × Matches q.items.items r.witness × ListsMatching (ps ++ q ∷ []) s r.numbers
  pub apart : IsApart (map (λ r. r.numbers) rs)
