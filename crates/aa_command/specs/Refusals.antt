-- Why nothing is answered, as it is printed.
-- Source: own.
use Rattle.std.specs.Prelude.{ℕ, ◌≡◌, ◌++◌, List, [], ◌∷◌, codes, Some, slice_get}
use Rattle.aa_base.specs.declared.fault.PolicyFault.{PolicyFault}
use Rattle.aa_base.specs.declared.fault.PolicyKind.{PolicyKind}
use Rattle.aa_base.specs.declared.fault.PolicyKind.TheVariants as kind
use Rattle.aa_base.specs.Kinds.{kind_name}
use Rattle.aa_text.specs.declared.fault.FaultReport.{FaultReport}
use Rattle.aa_base.specs.declared.unread.Unread.{Unread}
use Rattle.aa_files.specs.declared.unit.Unit as unit
use Rattle.aa_files.specs.declared.unit.UnitFault.{UnitFault}
use Rattle.aa_files.specs.declared.unit.UnitFault.TheVariants.{NoMemory, At, Ambiguous}
use Rattle.aa_diagnostics.specs.Sentences.{message}
use Rattle.aa_diagnostics.specs.Further.{spot_line}
use Rattle.aa_diagnostics.specs.Reports.{IsReport, IsDescribed, IsOfWhole, unread_kind, unread_message}
use Rattle.aa_load.specs.declared.fault.RepeatedName.{RepeatedName}
use Rattle.aa_load.specs.declared.fault.LoadingFault.{LoadingFault}
use Rattle.aa_load.specs.declared.fault.LoadingFault.TheVariants as fault
use Rattle.aa_command.specs.Printed.{Printed, fault_alone}

-- one fault is printed, which is so, with that status
pub record SaysFault (IsSo : FaultReport → Type 0) (status : ℕ) (out : Printed) : Type 0 where
  pub report : FaultReport
  pub is_so : IsSo report
  pub says : out ≡ fault_alone report status

-- what lies at a path can't be read: 3
abbrev pub SaysUnread : List ℕ → Unread → Printed → Type 0
SaysUnread path why out = SaysFault (IsOfWhole (unread_kind why) path (unread_message why)) 3 out

-- a file can't be read with all that it includes: 3, or 1 where a name stands for two texts
abbrev pub SaysUnitFault : UnitFault → Printed → Type 0
SaysUnitFault NoMemory out = ⊥
SaysUnitFault (At path why) out = SaysUnread path.items why out
SaysUnitFault (Ambiguous report) out = out ≡ fault_alone report 1

-- a unit is no policy that compiles: 1
abbrev pub SaysPolicyFault : List (List ℕ) → ℕ → unit.Unit → PolicyFault → Printed → Type 0
SaysPolicyFault folders states u e out = SaysFault (IsDescribed u folders states e) 1 out

-- so of the unit of that number
pub record SaysAlone (folders : List (List ℕ)) (states : ℕ) (us : List unit.Unit) (n : ℕ) (e : PolicyFault) (out : Printed) : Type 0 where
  pub one : unit.Unit
  pub is : slice_get us n ≡ Some one
  pub says : SaysPolicyFault folders states one e out

-- a profile of one unit has the name of one of an earlier unit: 1
pub record SaysRepeated (us : List unit.Unit) (t : RepeatedName) (out : Printed) : Type 0 where
  pub one : unit.Unit
  pub is : slice_get us t.number ≡ Some one
  pub earlier : unit.Unit
  pub earlier_is : slice_get us t.earlier ≡ Some earlier
  pub says : SaysFault (IsReport one 0 (record { kind = kind.DuplicateProfile; at = t.at }) (spot_line earlier (codes "earlier at ") t.earlier_at ∷ [])) 1 out

-- units pass a limit together, which is told of the unit of that number: 1
pub record SaysTogether (states : ℕ) (us : List unit.Unit) (n : ℕ) (k : PolicyKind) (out : Printed) : Type 0 where
  pub one : unit.Unit
  pub is : slice_get us n ≡ Some one
  pub says : SaysFault (IsOfWhole (kind_name k) one.path.items (message states [] 0 k ++ codes " (all files together)")) 1 out

-- units are no policy together
abbrev pub SaysLoadingFault : List (List ℕ) → ℕ → List unit.Unit → LoadingFault → Printed → Type 0
SaysLoadingFault folders states us fault.NoMemory out = ⊥
SaysLoadingFault folders states us (fault.OfTexts n e) out = SaysAlone folders states us n e out
SaysLoadingFault folders states us (fault.Repeated t) out = SaysRepeated us t out
SaysLoadingFault folders states us (fault.TooLarge n) out = SaysTogether states us n kind.TooLarge out
SaysLoadingFault folders states us (fault.Together e) out = SaysTogether states us 0 e.kind out
