-- What nothing can break holds, whatever the rules say.
-- Source: own.
use Rattle.std.specs.Prelude.{◌≡◌, ℕ, List, [], ◌∷◌, map, true, Option, Some}
use Rattle.aa_model.specs.declared.policy.Policy.{Policy}
use Rattle.aa_model.specs.declared.policy.Profile.{Profile}
use Rattle.aa_claims.specs.declared.words.ClaimWord.{ClaimWord}
use Rattle.aa_claims.specs.declared.fault.Wrong.{Wrong}
use Rattle.aa_assert.specs.declared.part.Part.{Part}
use Rattle.aa_assert.specs.declared.asked.Asked.{Asked}
use Rattle.aa_assert.specs.Breaking.{unbreakable}
use Rattle.aa_assert.specs.Holding.{Holds}

-- the name of a profile, and the number of its parent, if it is a child
abbrev pub called : Profile → List ℕ × Option ℕ
called p = (p.name, p.parent)

-- profiles that are called as those, below parents of the same numbers: their attachments, flags and rules may be any
abbrev pub AreCalledAs : List Profile → List Profile → Type 0
AreCalledAs qs ps = map called qs ≡ map called ps

-- a claim that nothing can break holds by each policy whose profiles are called as those that are read
abbrev pub UnbreakableHold : Type 0
UnbreakableHold = (d : Part) (ws : List ClaimWord) (says : Asked) (fault : Wrong) → unbreakable d ws says ≡ Some fault
    → (read whole : Policy) → d.decided.policies.now ≡ read ∷ [] → AreCalledAs whole.profiles read.profiles → Holds true (whole ∷ []) ws says
