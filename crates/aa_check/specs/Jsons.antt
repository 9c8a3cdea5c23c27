-- What `check` finds, as a JSON object.
-- Source: own.
use Rattle.std.specs.Prelude.{ℕ, List, [], ◌++◌, ◌==◌, length, if◌then◌else◌, map, flat_map, codes, decimal, is_none, option_map, Vec}
use Rattle.std.specs.declared.alloc.Global.{Global}
use Rattle.aa_text.specs.Jsons.{json_bytes, key_text, bool_text, member_text, member_if, list_text}
use Rattle.aa_text.specs.declared.fault.FaultReport.{FaultReport}
use Rattle.aa_text.specs.Faults.{json_fault}
use Rattle.aa_check.specs.declared.report.ProfileReport.{ProfileReport}
use Rattle.aa_check.specs.Counts.{Told, counts_of}
use Rattle.aa_check.specs.declared.report.FileReport.{FileReport}
use Rattle.aa_check.specs.declared.report.CheckReport.{CheckReport}

-- a count as a member
abbrev pub json_count : Told → List ℕ
json_count c = member_text c.key (decimal c.number)

-- a profile with its line and its counts
unfoldable pub json_profile : ProfileReport → List ℕ
json_profile p =
    codes "{" ++ key_text (codes "name") ++ json_bytes p.name.items ++ member_text (codes "line") (decimal p.line)
    ++ flat_map json_count (counts_of p) ++ codes "}"

-- the members of a file's path, and of whether it is accepted
unfoldable pub json_path : FileReport → List ℕ
json_path f = codes "{" ++ key_text (codes "path") ++ json_bytes f.path.items ++ member_text (codes "ok") (bool_text (is_none f.fault))

-- warnings, as a member
abbrev pub json_warnings : List (Vec ℕ Global) → List ℕ
json_warnings warnings = member_text (codes "warnings") (list_text (map (λ warning. json_bytes warning.items) warnings))

-- the faults behind the first, as a member, where there are any
unfoldable pub json_further : List FaultReport → List ℕ
json_further faults = if length faults == 0 then [] else member_text (codes "further") (list_text (map json_fault faults))

-- a file
unfoldable pub json_file : FileReport → List ℕ
json_file f =
    json_path f ++ member_if (codes "fault") (option_map json_fault f.fault) ++ json_further f.further.items
    ++ member_text (codes "profiles") (list_text (map json_profile f.profiles.items)) ++ json_warnings f.warnings.items ++ codes "}"

-- the one object
abbrev pub json_report : CheckReport → List ℕ
json_report r = codes "{" ++ key_text (codes "files") ++ list_text (map json_file r.files.items) ++ json_warnings r.warnings.items ++ codes "}\n"
