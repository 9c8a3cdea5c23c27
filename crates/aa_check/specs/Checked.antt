-- What is found of each file that the command line names.
-- Source: own.
use Rattle.std.specs.Prelude.{ℕ, ◌≡◌, List, [], ◌∷◌, ◌++◌, ◌&&◌, length, count_by, sum_by, is_some, is_none, unwrap_or, codes, Bool, false, if◌then◌else◌, Option, Some, None, ◌⊎◌}
use Rattle.std.specs.List.{list_any}
use Rattle.aa_base.specs.declared.fault.PolicyFault.{PolicyFault}
use Rattle.aa_model.specs.declared.policy.Policy.{Policy}
use Rattle.aa_files.specs.Texts.{texts}
use Rattle.aa_text.specs.declared.fault.FaultReport.{FaultReport}
use Rattle.aa_files.specs.declared.unit.Unit as unit
use Rattle.aa_files.specs.declared.unit.UnitFault.{UnitFault}
use Rattle.aa_load.specs.UnitPolicy.{limit_of, IsPolicyOfUnit, IsFaultOfUnit}
use Rattle.aa_files.specs.UnitFaults.{IsLoadFault}
use Rattle.aa_files.specs.RootFaults.{IsRootFault}
use Rattle.aa_diagnostics.specs.Reports.{IsDescribed, IsSaid}
use Rattle.aa_faults.specs.Further.{AreFurther}
use Rattle.aa_skipping.specs.declared.unread.Unread as skipping
use Rattle.aa_skipped.specs.Heads.{AreHeadsOf}
use Rattle.aa_check.specs.declared.report.FileReport.{FileReport}
use Rattle.aa_check.specs.declared.report.CheckReport.{CheckReport}
use Rattle.aa_command.specs.Setting.{Setting, IsLoaded, AreRoots}
use Rattle.aa_check.specs.Counts.{CountsPolicy}
use Rattle.aa_check.specs.Names.{warnings_of}

-- how many faults are told of a file behind its first, at most
abbrev pub most_further : ℕ
most_further = 19

-- a fault is the first that is found, and no profile is
pub record HasFault (fault : FaultReport) (f : FileReport) : Type 0 where
  pub fault_is : f.fault ≡ Some fault
  pub profiles : f.profiles.items ≡ []
  pub passed_over : f.passed_over.items ≡ []
  pub warnings : f.warnings.items ≡ []

-- nothing is found but a fault
pub record HasOnly (fault : FaultReport) (f : FileReport) : Type 0 where
  pub has : HasFault fault f
  pub alone : f.further.items ≡ []

-- how many profiles heads tell, where there are no others
abbrev pub held_by : skipping.Unread → Option ℕ
held_by r = if r.others then None else Some (length r.heads)

-- it is told how many profiles the unit seems to hold
pub record TellsHeld (u : unit.Unit) (held : Option ℕ) : Type 0 where
  pub unread : skipping.Unread
  pub heads : AreHeadsOf u unread
  pub told : held ≡ held_by unread

-- what is found of a unit: its policy is counted, or its fault is told, and those behind it, and how many profiles it seems to hold
pub data IsFoundOf (folders : List (List ℕ)) (states : ℕ) (u : unit.Unit) (f : FileReport) : Type 0 where
  Accepted : (policy : Policy) → IsPolicyOfUnit (limit_of states) u policy → f.fault ≡ None → f.further.items ≡ [] → f.held ≡ None
      → CountsPolicy u policy f.profiles.items f.passed_over.items → IsFoundOf folders states u f
  Refused : (e : PolicyFault) (fault : FaultReport) → IsFaultOfUnit (limit_of states) u e → IsDescribed u folders states e fault → HasFault fault f
      → AreFurther folders states most_further u e f.further.items → TellsHeld u f.held → IsFoundOf folders states u f

-- what is found of the file at a path: what is found of its unit, or why that can't be read
pub data IsFound (s : Setting) (path : List ℕ) (f : FileReport) : Type 0 where
  Read : (u : unit.Unit) → IsLoaded s path u → IsFoundOf s.folders s.states u f → f.is_unread ≡ false → IsFound s path f
  Unread : (e : UnitFault) (fault : FaultReport) → IsLoadFault s.files s.input s.folders path e → IsSaid e fault f.is_unread → HasOnly fault f → f.held ≡ None → IsFound s path f

-- what is found of a file, with the warnings of its names by the files before it
pub record IsNext (s : Setting) (before : List FileReport) (path : List ℕ) (f : FileReport) : Type 0 where
  pub path_is : f.path.items ≡ path
  pub found : IsFound s path f
  pub warned : texts f.warnings.items ≡ warnings_of before f

-- a file for each path, in order
abbrev pub AreFound : Setting → List FileReport → List (List ℕ) → List FileReport → Type 0
AreFound s before [] [] = Unit {0}
AreFound s before (path ∷ paths) (f ∷ files) = IsNext s before path f × AreFound s (before ++ f ∷ []) paths files
AreFound s before _ _ = ⊥

-- it isn't told how many profiles a file seems to hold that is refused
abbrev pub is_untold : FileReport → Bool
is_untold f = is_some f.fault && is_none f.held

-- how many files are refused, how many profiles they have, how many those that are refused seem to hold, and whether one can't be read
pub record CountsFiles (r : CheckReport) : Type 0 where
  pub refused : r.refused ≡ count_by (λ (f : FileReport). is_some f.fault) r.files.items
  pub profiles : r.profiles ≡ sum_by (λ (f : FileReport). length f.profiles.items) r.files.items
  pub held : r.held ≡ sum_by (λ (f : FileReport). unwrap_or f.held 0) r.files.items
  pub untold : r.untold ≡ count_by is_untold r.files.items
  pub is_unread : r.is_unread ≡ list_any (λ (f : FileReport). f.is_unread) r.files.items

-- a fault is told as the one file that is refused
pub record HasOneRefused (e : UnitFault) (r : CheckReport) : Type 0 where
  pub fault : FaultReport
  pub file : FileReport
  pub said : IsSaid e fault file.is_unread
  pub only : HasOnly fault file
  pub untold : file.held ≡ None
  pub at : file.path.items ≡ fault.path.items
  pub files_are : r.files.items ≡ file ∷ []
  pub no_warnings : r.warnings.items ≡ []

-- the files that the arguments stand for can't be told, and why is told
pub record IsUntold (s : Setting) (arguments : List (List ℕ)) (r : CheckReport) : Type 0 where
  pub e : UnitFault
  pub why : IsRootFault s.files s.taken s.base arguments e
  pub told : HasOneRefused e r

-- what is found of the files at some paths, with warnings of others, and of there being none
pub record AreChecked (s : Setting) (paths warnings : List (List ℕ)) (r : CheckReport) : Type 0 where
  pub found : AreFound s [] paths r.files.items
  pub warned : texts r.warnings.items ≡ warnings

-- what is found of the files that the arguments stand for, or why these can't be told; and the counts of all
pub record IsChecked (s : Setting) (arguments : List (List ℕ)) (r : CheckReport) : Type 0 where
  pub each : ((paths warnings : List (List ℕ)) × AreRoots s arguments paths warnings × AreChecked s paths warnings r) ⊎ IsUntold s arguments r
  pub counts : CountsFiles r
