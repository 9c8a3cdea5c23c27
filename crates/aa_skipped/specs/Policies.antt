-- The one policy of the files that aren't skipped.
-- Source: own.
use Rattle.std.specs.Prelude.{ℕ, ◌≡◌, List}
use Rattle.aa_files.specs.declared.unit.Unit as unit
use Rattle.aa_files.specs.declared.unit.UnitFault.{UnitFault}
use Rattle.aa_files.specs.RootFaults.{IsRootFault}
use Rattle.aa_command.specs.declared.decided.Decided.{Decided}
use Rattle.aa_command.specs.Setting.{Setting, AreRoots}
use Rattle.aa_command.specs.Printed.{Printed}
use Rattle.aa_command.specs.Refusals.{SaysUnitFault}
use Rattle.aa_command.specs.Policies.{IsPrintedBy, behind_warnings}
use Rattle.aa_skipped.specs.declared.skipped.Skipped.{Skipped}
use Rattle.aa_skipped.specs.Sorting.{AreSorted}
use Rattle.aa_skipped.specs.Repeated.{AreParted}
use Rattle.aa_skipped.specs.Telling.{behind_skipped}

-- what is printed by the files at some paths: by the units of those that are read and share no name with another, behind what is told of those that are skipped
pub record IsPrintedSkipping (s : Setting) (paths : List (List ℕ)) (gives : List Skipped → Decided → Printed → Type 0) (out : Printed) : Type 0 where
  pub good : List unit.Unit
  pub refused : List Skipped
  pub sorted : AreSorted s paths good refused
  pub units : List unit.Unit
  pub skipped : List Skipped
  pub parted : AreParted good refused units skipped
  pub own : Printed
  pub by : IsPrintedBy s.folders s.states units (gives skipped) own
  pub behind : out ≡ behind_skipped skipped own

-- what is printed by the files that arguments stand for, behind what is warned of others, or why these can't be told
pub data IsPrintedOf (s : Setting) (arguments : List (List ℕ)) (gives : List Skipped → Decided → Printed → Type 0) (out : Printed) : Type 0 where
  NoRoots : (e : UnitFault) → IsRootFault s.files s.taken s.base arguments e → SaysUnitFault e out → IsPrintedOf s arguments gives out
  Rooted : (paths warnings : List (List ℕ)) (own : Printed) → AreRoots s arguments paths warnings → IsPrintedSkipping s paths gives own
      → out ≡ behind_warnings warnings own → IsPrintedOf s arguments gives out
