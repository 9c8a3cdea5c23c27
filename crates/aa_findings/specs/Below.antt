-- The paths at which profiles tie, by the parent of these.
-- Source: apparmor.d(5), "Profile Head"; own.
use Rattle.std.specs.Prelude.{◌≡◌, ℕ, zero, suc, ◌+◌, List, [], ◌∷◌, length, map, Option, Some, None}
use Rattle.std.specs.List.{slice_get}
use Rattle.aa_model.specs.declared.policy.Policy.{Policy}
use Rattle.aa_model.specs.declared.policy.Profile.{Profile}
use Rattle.aa_regions.specs.declared.regions.Region.{Region}
use Rattle.aa_regions.specs.Regions.{ArePathRegions}
use Rattle.aa_compile.specs.Attached.{numbers_below}
use Rattle.aa_findings.specs.declared.below.Below.{Below}
use Rattle.aa_findings.specs.declared.below.Below.TheVariants.{Shown, Excessive}
use Rattle.aa_findings.specs.declared.below.Attached.{Attached}
use Rattle.aa_findings.specs.declared.attached.Shared.{Shared}
use Rattle.aa_findings.specs.declared.fault.FindingsFault.{FindingsFault}
use Rattle.aa_findings.specs.declared.fault.FindingsFault.TheVariants.{NoMemory}
use Rattle.aa_findings.specs.Faults.{IsFaultOf}
use Rattle.aa_findings.specs.Attached.{patterns_at, sharing, shared_by}

-- those of the attachments of the profiles with these numbers are of regions that stand for all paths that can be asked for, or why there are none
abbrev pub IsBelow : List Profile → List ℕ → ℕ → Below → Type 0
IsBelow profiles group limit (Shown list) =
    (regions : List Region) × ArePathRegions (patterns_at profiles group) regions × (map sharing list.items ≡ shared_by profiles group regions)
IsBelow profiles group limit (Excessive e) = IsFaultOf (patterns_at profiles group) limit e

-- the parent of that place: none at the start, and then each profile
abbrev pub parent_at : ℕ → Option ℕ
parent_at zero = None
parent_at (suc n) = Some n

-- the place of a parent
abbrev pub place_of : Option ℕ → ℕ
place_of None = 0
place_of (Some n) = n + 1

-- the place of a profile's parent
abbrev pub row_of_parent : Profile → List ℕ
row_of_parent p = place_of p.parent ∷ []

-- so many stand there, each of the parent of its place
pub record AreBelow (profiles : List Profile) (limit : ℕ) (n : ℕ) (all : List Below) : Type 0 where
  pub many : length all ≡ n
  pub each : (k : ℕ) (b : Below) → slice_get all k ≡ Some b → IsBelow profiles (numbers_below (parent_at k) 0 profiles) limit b

-- these are what stands there
abbrev pub ShowsBelow : Option Below → List Shared → Type 0
ShowsBelow None shared = ⊥
ShowsBelow (Some (Shown list)) shared = shared ≡ list.items
ShowsBelow (Some (Excessive e)) shared = ⊥

-- this is why none stand there, or memory ran out
abbrev pub ExceedsBelow : Option Below → FindingsFault → Type 0
ExceedsBelow None e = e ≡ NoMemory
ExceedsBelow (Some (Shown list)) e = ⊥
ExceedsBelow (Some (Excessive other)) e = e ≡ other

-- those of a policy, of each parent that there can be
abbrev pub AreAttachedIn : Option Policy → ℕ → List Below → Type 0
AreAttachedIn None limit all = Unit {0}
AreAttachedIn (Some policy) limit all = AreBelow policy.profiles limit (length policy.profiles + 1) all

-- those of the first of the policies
abbrev pub AreAttached : List Policy → ℕ → Attached → Type 0
AreAttached policies limit a = AreAttachedIn (slice_get policies 0) limit a.below.items
