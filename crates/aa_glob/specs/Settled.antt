-- Outcomes that are texts, and what is known of them.
use Rattle.std.specs.Prelude.{ℕ, zero, suc, ◌<◌, ◌≤◌, ◌≡◌, ◌↔◌, ◌+◌, ◌*◌, ◌||◌, ◌&&◌, min, List, [], ◌∷◌, length, All, IsTrue}
use Rattle.aa_glob.specs.declared.summary.Summary.{Summary}
use Rattle.aa_glob.specs.Variables.{Variable}
use Rattle.aa_glob.specs.Expansions.{Outcome, Texts, outcome_of}

-- the text is empty
abbrev pub IsEmptyText : List ℕ → Type 0
IsEmptyText t = t ≡ []

-- the summary of texts, where `most` is the most that a variable on the way has
pub record Sums (s : Summary) (most : ℕ) (ts : List (List ℕ)) : Type 0 where
  pub count : s.count ≡ min 1025 (length ts)
  pub many : IsTrue s.many ↔ (1024 < most)
  pub blank : IsTrue s.blank → All IsEmptyText ts

-- an outcome with that summary
pub record Settled (x : Outcome) (s : Summary) : Type 0 where
  pub most : ℕ
  pub ts : List (List ℕ)
  pub is : x ≡ Texts most ts
  pub sums : Sums s most ts

-- each text of the one followed by each of the other
abbrev pub times : Summary → Summary → Summary
times s r = record { count = min 1025 (s.count * r.count); many = s.many || r.many; blank = s.blank && r.blank }

-- the texts of the one and then those of the other
abbrev pub plus : Summary → Summary → Summary
plus s r = record { count = min 1025 (s.count + r.count); many = s.many || r.many; blank = s.blank && r.blank }

-- where the texts of each value end among those of all, if the first begin at `start`
abbrev pub AreEnds : List Variable → ℕ → List (List ℕ) → List ℕ → Type 0
AreEnds vars start [] [] = Unit {0}
AreEnds vars start [] (e ∷ es) = ⊥
AreEnds vars start (v ∷ vs) [] = ⊥
AreEnds vars start (v ∷ vs) (e ∷ es) =
    (start ≤ e) × ((depth most : ℕ) (ts : List (List ℕ)) → outcome_of depth vars v ≡ Texts most ts → e ≡ min 1025 (start + length ts)) × AreEnds vars e vs es

-- where the texts before those of a value end
abbrev pub before : ℕ → List ℕ → ℕ → ℕ
before start es zero = start
before start [] (suc i) = start
before start (e ∷ es) (suc i) = before e es i
