-- The policies of a job: each unit's text, and the names of its profiles.
-- Source: own.
use Rattle.std.specs.Prelude.{ℕ, ◌≡◌, ◌≢◌, List, ◌∷◌, ◌++◌, Vec}
use Rattle.std.specs.List.{AllZip}
use Rattle.std.specs.declared.alloc.Global.{Global}
use Rattle.aa_files.specs.Texts.{texts}
use Rattle.aa_base.specs.declared.fault.PolicyFault.{PolicyFault}
use Rattle.aa_base.specs.declared.fault.PolicyKind.TheVariants.{NoMemory as WantOfMemory}
use Rattle.aa_model.specs.declared.policy.Policy.{Policy}
use Rattle.aa_model.specs.Lawful.{names_of}
use Rattle.aa_files.specs.declared.unit.Unit as unit
use Rattle.aa_load.specs.UnitPolicy.{IsPolicyOfUnit, IsFaultOfUnit}
use Rattle.aa_notation.specs.declared.job.JobPolicy.{JobPolicy}
use Rattle.aa_job.specs.declared.policies.Unnamed.{Unnamed}
use Rattle.aa_job.specs.declared.policies.Unnamed.TheVariants.{NoMemory, Refused}

-- the names of the profiles of the policy that a unit is
abbrev pub HasNames : ℕ → unit.Unit → List (List ℕ) → Type 0
HasNames limit u names = (policy : Policy) × IsPolicyOfUnit limit u policy × (names ≡ names_of policy.profiles)

-- so of each unit, in order
abbrev pub HaveNames : ℕ → List unit.Unit → List (Vec (Vec ℕ Global) Global) → Type 0
HaveNames limit us all = AllZip (λ u names. HasNames limit u (texts names.items)) us all

-- of these units, the first that is no policy, and why
pub record IsFirstRefused (limit : ℕ) (us : List unit.Unit) (u : unit.Unit) (e : PolicyFault) : Type 0 where
  pub before : List unit.Unit
  pub behind : List unit.Unit
  pub are : us ≡ before ++ u ∷ behind
  pub policies : List Policy
  pub compile : AllZip (IsPolicyOfUnit limit) before policies
  pub fault : IsFaultOfUnit limit u e

-- why the profiles of units have no names: memory ran out, or one of the units is no policy
abbrev pub IsUnnamed : ℕ → List unit.Unit → Unnamed → Type 0
IsUnnamed limit us NoMemory = Unit {0}
IsUnnamed limit us (Refused u e) = e.kind ≢ WantOfMemory → IsFirstRefused limit us u.now e

-- a unit as a policy of the job: its text, and the names of the profiles of the policy that it is
pub record IsJobPolicy (limit : ℕ) (u : unit.Unit) (p : JobPolicy) : Type 0 where
  pub text : p.text.now ≡ u.text.items
  pub names : HasNames limit u (texts p.names.now)

-- each is the policy of its unit
abbrev pub AreJobPolicies : ℕ → List unit.Unit → List JobPolicy → Type 0
AreJobPolicies limit us ps = AllZip (IsJobPolicy limit) us ps
