-- What `check` finds, a line each, as compilers write it.
-- Source: the GNU coding standards, "Formatting Error Messages"; own.
use Rattle.std.specs.Prelude.{ℕ, List, [], ◌++◌, flat_map, codes, Bool, if◌then◌else◌, Option, Some, None, Vec}
use Rattle.std.specs.declared.alloc.Global.{Global}
use Rattle.aa_text.specs.Visible.{all_visible}
use Rattle.aa_text.specs.Faults.{where_if}
use Rattle.aa_text.specs.declared.fault.FaultReport.{FaultReport}
use Rattle.aa_check.specs.declared.report.FileReport.{FileReport}
use Rattle.aa_check.specs.declared.report.CheckReport.{CheckReport}

-- PATH:LINE:COLUMN: error: SENTENCE, the place where there is one
unfoldable pub gcc_fault : FaultReport → List ℕ
gcc_fault f = where_if f.path.items f.place ++ codes ": error: " ++ all_visible f.message.items ++ codes "\n"

-- the line of a fault, if there is one
abbrev pub gcc_fault_if : Option FaultReport → List ℕ
gcc_fault_if None = []
gcc_fault_if (Some fault) = gcc_fault fault

-- a warning names its file itself, so the program's name stands where else a path does
unfoldable pub warning_head : List ℕ
warning_head = codes "aapolicy: warning: "

-- the line of a warning
abbrev pub gcc_warning : Vec ℕ Global → List ℕ
gcc_warning warning = warning_head ++ all_visible warning.items ++ codes "\n"

-- no warnings where quiet is wanted
abbrev pub gcc_warnings : Bool → List (Vec ℕ Global) → List ℕ
gcc_warnings quiet warnings = if quiet then [] else flat_map gcc_warning warnings

-- the faults of a file, and what is warned of it
abbrev pub gcc_file : Bool → FileReport → List ℕ
gcc_file quiet f = gcc_fault_if f.fault ++ flat_map gcc_fault f.further.items ++ gcc_warnings quiet f.warnings.items

-- what is warned of besides, and then each file
abbrev pub gcc_report : Bool → CheckReport → List ℕ
gcc_report quiet r = gcc_warnings quiet r.warnings.items ++ flat_map (gcc_file quiet) r.files.items
