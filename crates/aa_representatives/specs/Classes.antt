-- Paths of which the rules say the same.
-- Source: own.
use Rattle.std.specs.Prelude.{◌≡◌, ℕ, ◌<◌, List, Bool, true, false, Option, Some, None, Contains, slice_index_or}
use Rattle.std.specs.List.{slice_get}
use Rattle.aa_model.specs.declared.rule.FileRule.{FileRule}
use Rattle.aa_model.specs.declared.policy.Policy.{Policy}
use Rattle.aa_model.specs.declared.policy.Profile.{Profile}
use Rattle.aa_model.specs.declared.label.Label.{Label}
use Rattle.aa_model.specs.declared.label.Label.TheVariants.{Unconfined, Confined}
use Rattle.aa_regions.specs.declared.regions.Region.{Region}
use Rattle.aa_regions.specs.Regions.{IsAsked}
use Rattle.aa_compile.specs.FileRules.{file_verdict, chosen, way_of}
use Rattle.aa_compile.specs.Labels.{policy_number}
use Rattle.aa_compile.specs.Rows.{IsVerdictOf}
use Rattle.aa_compile.specs.Ways.{way_by}
use Rattle.aa_representatives.specs.declared.classes.Class.{Class}

-- of the owner and of others: the four sets are the same, and so is the way to execute
abbrev pub SayAlike : List FileRule → List ℕ → List ℕ → Type 0
SayAlike rules s u = (owned : Bool) → (file_verdict rules s owned ≡ file_verdict rules u owned) × (way_of (chosen rules s owned) ≡ way_of (chosen rules u owned))

-- so the rules of a profile, if there is one
abbrev pub SayAlikeIn : Option Profile → List ℕ → List ℕ → Type 0
SayAlikeIn (Some p) s u = SayAlike p.files s u
SayAlikeIn None s u = Unit {0}

-- those at a label, of the policy that it names
abbrev pub SayAlikeBy : Label → Option Policy → List ℕ → List ℕ → Type 0
SayAlikeBy (Confined k n) (Some policy) s u = SayAlikeIn (slice_get policy.profiles n) s u
SayAlikeBy (Unconfined k) (Some policy) s u = Unit {0}
SayAlikeBy label None s u = Unit {0}

-- those at a label
abbrev pub SayAlikeAt : List Policy → Label → List ℕ → List ℕ → Type 0
SayAlikeAt policies label s u = SayAlikeBy label (slice_get policies (policy_number label)) s u

-- paths that can be asked for, such that of each such path the same is said as of one of them
pub record AreLinkPaths (policies : List Policy) (label : Label) (paths : List (List ℕ)) : Type 0 where
  pub each : (s : List ℕ) → Contains paths s → IsAsked s
  pub all : (s : List ℕ) → IsAsked s → (u : List ℕ) × Contains paths u × SayAlikeAt policies label s u

-- what the rules say of the path, of the owner and of others
pub record IsClassOf (rules : List FileRule) (path : List ℕ) (c : Class) : Type 0 where
  pub owned : IsVerdictOf (way_by rules) rules path true c.owned
  pub other : IsVerdictOf (way_by rules) rules path false c.other

-- a class with its own path
pub record IsClass (rules : List FileRule) (c : Class) : Type 0 where
  pub asked : IsAsked c.path
  pub said : IsClassOf rules c.path c

-- the classes of the paths of the first n regions
pub record AreClasses (rules : List FileRule) (regions : List Region) (n : ℕ) (classes : List Class) : Type 0 where
  pub each : (c : Class) → Contains classes c → IsClass rules c
  pub all : (k : ℕ) (r : Region) → k < n → slice_index_or regions k r ≡ r → (c : Class) × Contains classes c × IsClassOf rules r.witness c

-- paths that can be asked for, such that of the path of each region the same is said as of one of them
pub record ArePathsOf (rules : List FileRule) (regions : List Region) (paths : List (List ℕ)) : Type 0 where
  pub each : (s : List ℕ) → Contains paths s → IsAsked s
  pub all : (r : Region) → Contains regions r → (u : List ℕ) × Contains paths u × SayAlike rules r.witness u
