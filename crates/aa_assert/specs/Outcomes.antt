-- What is told of claims, one after another.
-- Source: own.
use Rattle.std.specs.Prelude.{ℕ, List, [], ◌∷◌, ◌++◌, map, flat_map}
use Rattle.aa_undecided.specs.Answers.{PlacedFile, placed_all}
use Rattle.aa_assert.specs.declared.kind.Kind.{Kind}
use Rattle.aa_assert.specs.declared.outcomes.Outcome as code
use Rattle.aa_assert.specs.declared.outcomes.Outcome.TheVariants as outcomes
use Rattle.aa_assert.specs.Findings.{Found, found}
use Rattle.aa_assert.specs.Answers.{Answered}
use Rattle.aa_assert.specs.Shown.{files_open}

-- the claim on the line of that number, of that kind, is broken so; or it is undecided, by these skipped files; or it is broken so at unclean
-- paths alone, which don't count
pub data Outcome : Type 0 where
  Broken : ℕ → Kind → Found → Outcome
  Undecided : ℕ → Kind → List PlacedFile → Outcome
  Apart : ℕ → Kind → Found → Outcome

-- so, without where it lies in memory
abbrev pub outcome : code.Outcome → Outcome
outcome (outcomes.Broken n k f) = Broken n k (found f.now)
outcome (outcomes.Undecided n k files) = Undecided n k (placed_all files.now)
outcome (outcomes.Apart n k f) = Apart n k (found f.now)

-- a claim is undecided, where these files could break it; where there are none it isn't
abbrev pub doubts_of : ℕ → Kind → List PlacedFile → List Outcome
doubts_of n k [] = []
doubts_of n k (file ∷ files) = Undecided n k (file ∷ files) ∷ []

-- what is told of a claim
abbrev pub outcomes_of : Answered → List Outcome
outcomes_of a =
    map (Broken a.number a.kind) a.found.list ++ doubts_of a.number a.kind (files_open a) ++ map (Apart a.number a.kind) a.found.apart

-- of all
abbrev pub all_outcomes : List Answered → List Outcome
all_outcomes answers = flat_map outcomes_of answers
