-- The one policy that files are.
-- Source: own.
use Rattle.std.specs.Prelude.{ℕ, ◌≡◌, ◌≢◌, ◌++◌, List, map, flat_map, codes, Result, Ok, Err}
use Rattle.aa_text.specs.Visible.{all_visible}
use Rattle.std.specs.List.{AllZip}
use Rattle.aa_base.specs.declared.fault.PolicyFault.{PolicyFault}
use Rattle.aa_base.specs.declared.fault.PolicyKind.TheVariants.{NoMemory}
use Rattle.aa_policies.specs.Policies.{Source, IsFaultOfSources}
use Rattle.aa_explain.specs.Places.{places_data}
use Rattle.aa_files.specs.declared.unit.Unit as unit
use Rattle.aa_files.specs.declared.unit.UnitFault.{UnitFault}
use Rattle.aa_command.specs.declared.decided.Decided.{Decided}
use Rattle.aa_load.specs.UnitPolicy.{limit_of, texts_of}
use Rattle.aa_files.specs.RootFaults.{IsRootFault}
use Rattle.aa_command.specs.Setting.{Setting, AreRoots}
use Rattle.aa_load.specs.declared.texts.Texts.{Texts}
use Rattle.aa_load.specs.declared.fault.LoadingFault.{LoadingFault}
use Rattle.aa_load.specs.Joining.{IsOnePolicy}
use Rattle.aa_load.specs.Refused.{IsRefusedBy}
use Rattle.aa_command.specs.Printed.{Printed}
use Rattle.aa_command.specs.Refusals.{SaysUnitFault, SaysLoadingFault}
use Rattle.aa_command.specs.Loads.{AreLoaded, IsFirstUnread}

-- the sources of a unit, as they are handed in, or why they can't be
abbrev pub AreSourcesOf : unit.Unit → Result (List Source) PolicyFault → Type 0
AreSourcesOf u (Ok sources) = sources ≡ texts_of u
AreSourcesOf u (Err e) = e.kind ≢ NoMemory → IsFaultOfSources (texts_of u) e

-- each is the sources of its unit
abbrev pub AreGathered : List unit.Unit → List (Result (List Source) PolicyFault) → Type 0
AreGathered us gathered = AllZip AreSourcesOf us gathered

-- a unit's main text with its sources
pub record IsTextsOf (u : unit.Unit) (t : Texts) : Type 0 where
  pub main : t.main.now ≡ u.text.items
  pub sources : AreSourcesOf u t.sources.now

-- so of each unit, in order
abbrev pub AreTextsOf : List unit.Unit → List Texts → Type 0
AreTextsOf us ts = AllZip IsTextsOf us ts

-- the units are one policy, by which is decided
pub record IsDecidedBy (states : ℕ) (units : List unit.Unit) (d : Decided) : Type 0 where
  pub units_are : d.units.now ≡ units
  pub texts : List Texts
  pub are : AreTextsOf units texts
  pub one : IsOnePolicy texts (limit_of states) d.owners.now (map places_data d.places.now) d.policies.now

-- they are none, and why
pub record AreNoPolicy (states : ℕ) (units : List unit.Unit) (f : LoadingFault) : Type 0 where
  pub texts : List Texts
  pub are : AreTextsOf units texts
  pub refused : IsRefusedBy (limit_of states) texts f

-- what is printed by units: what is given by the one policy that they are, or why they are none
pub data IsPrintedBy (folders : List (List ℕ)) (states : ℕ) (units : List unit.Unit) (gives : Decided → Printed → Type 0) (out : Printed) : Type 0 where
  Refused : (f : LoadingFault) → AreNoPolicy states units f → SaysLoadingFault folders states units f out → IsPrintedBy folders states units gives out
  Decides : (d : Decided) → IsDecidedBy states units d → gives d out → IsPrintedBy folders states units gives out

-- what is printed by the files at some paths: by their units, or why the first that can't be read has none
pub data IsPrintedAt (s : Setting) (paths : List (List ℕ)) (gives : Decided → Printed → Type 0) (out : Printed) : Type 0 where
  Unread : (e : UnitFault) → IsFirstUnread s paths e → SaysUnitFault e out → IsPrintedAt s paths gives out
  Read : (units : List unit.Unit) → AreLoaded s paths units → IsPrintedBy s.folders s.states units gives out → IsPrintedAt s paths gives out

-- the line of a warning, as it is shown
abbrev pub warning_line : List ℕ → List ℕ
warning_line warning = codes "warning: " ++ all_visible warning ++ codes "\n"

-- what is printed, behind warnings
abbrev pub behind_warnings : List (List ℕ) → Printed → Printed
behind_warnings warnings own = record { answers = own.answers; faults = flat_map warning_line warnings ++ own.faults; refusal = own.refusal; status = own.status }

-- what is printed by the files that arguments stand for, behind what is warned of others, or why these can't be told
pub data IsPrintedFor (s : Setting) (arguments : List (List ℕ)) (gives : Decided → Printed → Type 0) (out : Printed) : Type 0 where
  NoRoots : (e : UnitFault) → IsRootFault s.files s.taken s.base arguments e → SaysUnitFault e out → IsPrintedFor s arguments gives out
  Rooted : (paths warnings : List (List ℕ)) (own : Printed) → AreRoots s arguments paths warnings → IsPrintedAt s paths gives own → out ≡ behind_warnings warnings own → IsPrintedFor s arguments gives out
