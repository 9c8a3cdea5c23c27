-- What `check` finds, as it is printed.
-- Source: own.
use Rattle.std.specs.Prelude.{ℕ, List, [], ◌++◌, ◌==◌, length, flat_map, codes, decimal, Bool, if◌then◌else◌, is_some, Option, Some, None, Vec}
use Rattle.std.specs.declared.alloc.Global.{Global}
use Rattle.aa_base.specs.Values.{value}
use Rattle.aa_text.specs.declared.fault.FaultReport.{FaultReport}
use Rattle.aa_text.specs.Visible.{all_visible}
use Rattle.aa_text.specs.Faults.{fault_text}
use Rattle.aa_check.specs.declared.report.ProfileReport.{ProfileReport}
use Rattle.aa_check.specs.declared.report.Passed.{Passed}
use Rattle.aa_check.specs.declared.report.FileReport.{FileReport}
use Rattle.aa_check.specs.declared.report.CheckReport.{CheckReport}
use Rattle.aa_check.specs.Counts.{Told, counts_of}

-- a number behind a space, and what it counts
unfoldable pub count_text : ℕ → List ℕ → List ℕ
count_text count what = codes " " ++ decimal count ++ what

-- one of the counts of a profile
abbrev pub told_text : Told → List ℕ
told_text c = count_text c.number c.words

-- the line of a profile: its name as audit lines have it, and its counts
unfoldable pub profile_line : ProfileReport → List ℕ
profile_line p = codes "  profile " ++ value p.name.items ++ flat_map told_text (counts_of p) ++ codes "\n"

-- a keyword, and how often it comes
unfoldable pub passed_text : Passed → List ℕ
passed_text p = codes " " ++ p.keyword.items ++ count_text p.count []

-- the line of the keywords, where there are any
unfoldable pub passed_line : List Passed → List ℕ
passed_line passed = if length passed == 0 then [] else codes "  passed over" ++ flat_map passed_text passed ++ codes "\n"

-- whether a file is refused, and its path as it is shown
unfoldable pub file_line : FileReport → List ℕ
file_line f = (if is_some f.fault then codes "refused " else codes "ok ") ++ all_visible f.path.items ++ codes "\n"

-- what is found of a file
abbrev pub file_text : FileReport → List ℕ
file_text f = file_line f ++ flat_map profile_line f.profiles.items ++ passed_line f.passed_over.items

-- how many files, how many of them are refused, and how many profiles
unfoldable pub last_line : CheckReport → List ℕ
last_line r = decimal (length r.files.items) ++ codes " files" ++ count_text r.refused (codes " refused") ++ count_text r.profiles (codes " profiles\n")

-- of so many files it can't be told
abbrev pub untold_text : ℕ → List ℕ
untold_text count = if count == 0 then [] else codes ", and any in " ++ decimal count ++ codes " of them"

-- how many profiles files that are refused seem to hold
unfoldable pub held_text : ℕ → ℕ → List ℕ
held_text held untold = codes "refused files seem to hold " ++ decimal held ++ codes " profiles" ++ untold_text untold ++ codes "\n"

-- the line of it, where there are such files
abbrev pub held_line : CheckReport → List ℕ
held_line r = if r.refused == 0 then [] else held_text r.held r.untold

-- what stands on standard output
abbrev pub report_text : CheckReport → List ℕ
report_text r = flat_map file_text r.files.items ++ last_line r ++ held_line r

-- the line of a warning, as it is shown
abbrev pub warning_line : Vec ℕ Global → List ℕ
warning_line warning = codes "warning: " ++ all_visible warning.items ++ codes "\n"

-- no warnings where quiet is wanted
abbrev pub warning_lines : Bool → List (Vec ℕ Global) → List ℕ
warning_lines quiet warnings = if quiet then [] else flat_map warning_line warnings

-- the text of a fault, if there is one
unfoldable pub fault_if : Option FaultReport → List ℕ
fault_if None = []
fault_if (Some fault) = fault_text fault

-- the faults of a file, and what is warned of it
abbrev pub file_faults : Bool → FileReport → List ℕ
file_faults quiet f = fault_if f.fault ++ flat_map fault_text f.further.items ++ warning_lines quiet f.warnings.items

-- what stands on standard error
abbrev pub faults_text : Bool → CheckReport → List ℕ
faults_text quiet r = warning_lines quiet r.warnings.items ++ flat_map (file_faults quiet) r.files.items
