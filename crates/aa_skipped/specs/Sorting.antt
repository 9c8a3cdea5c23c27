-- Which files are read, and which are skipped.
-- Source: own.
use Rattle.std.specs.Prelude.{ℕ, ◌≡◌, List, [], ◌∷◌, flat_map, Bool}
use Rattle.std.specs.List.{AllZip}
use Rattle.aa_base.specs.declared.fault.PolicyFault.{PolicyFault}
use Rattle.aa_model.specs.declared.policy.Policy.{Policy}
use Rattle.aa_files.specs.declared.unit.Unit as unit
use Rattle.aa_files.specs.declared.unit.UnitFault.{UnitFault}
use Rattle.aa_files.specs.UnitFaults.{IsLoadFault}
use Rattle.aa_load.specs.UnitPolicy.{limit_of, IsPolicyOfUnit, IsFaultOfUnit}
use Rattle.aa_diagnostics.specs.Reports.{IsDescribed, IsSaid}
use Rattle.aa_command.specs.Setting.{Setting, IsLoaded}
use Rattle.aa_skipped.specs.declared.skipped.Skipped.{Skipped}
use Rattle.aa_skipped.specs.declared.skipped.Found.{Found}
use Rattle.aa_skipped.specs.declared.skipped.Found.TheVariants.{Read, Left}
use Rattle.aa_skipped.specs.Heads.{nothing_known, AreHeadsOf}

-- a unit is a policy that compiles
abbrev pub IsGood : ℕ → unit.Unit → Type 0
IsGood states u = (policy : Policy) × IsPolicyOfUnit (limit_of states) u policy

-- a unit is refused and skipped: its fault is told as `check` tells it, and its heads are read
pub record IsRefusedUnit (s : Setting) (u : unit.Unit) (k : Skipped) : Type 0 where
  pub e : PolicyFault
  pub why : IsFaultOfUnit (limit_of s.states) u e
  pub told : IsDescribed u s.folders s.states e k.fault
  pub heads : AreHeadsOf u k.unread

-- a file can't be read with all that it includes, which is told as `check` tells it; nothing is known of its profiles
pub record IsUnreadable (s : Setting) (path : List ℕ) (k : Skipped) : Type 0 where
  pub e : UnitFault
  pub why : IsLoadFault s.files s.input s.folders path e
  pub is_unread : Bool
  pub told : IsSaid e k.fault is_unread
  pub unknown : k.unread ≡ nothing_known

-- a file is skipped: its unit is refused, or it has none
pub data IsSkipped (s : Setting) (path : List ℕ) (k : Skipped) : Type 0 where
  Refused : (u : unit.Unit) → IsLoaded s path u → IsRefusedUnit s u k → IsSkipped s path k
  Unreadable : IsUnreadable s path k → IsSkipped s path k

-- a file is read, and its unit is a policy that compiles; or it is skipped
abbrev pub IsFound : Setting → List ℕ → Found → Type 0
IsFound s path (Read u) = IsLoaded s path u × IsGood s.states u
IsFound s path (Left k) = (k.path.items ≡ path) × IsSkipped s path k

-- the unit of a file that is read
abbrev pub units_in : Found → List unit.Unit
units_in (Read u) = u ∷ []
units_in (Left k) = []

-- a file that is skipped
abbrev pub skipped_in : Found → List Skipped
skipped_in (Read u) = []
skipped_in (Left k) = k ∷ []

-- of the files at some paths, the units of those that are read, and those that are skipped, each in their order
pub record AreSorted (s : Setting) (paths : List (List ℕ)) (units : List unit.Unit) (skipped : List Skipped) : Type 0 where
  pub founds : List Found
  pub found : AllZip (IsFound s) paths founds
  pub units_are : units ≡ flat_map units_in founds
  pub skipped_are : skipped ≡ flat_map skipped_in founds
