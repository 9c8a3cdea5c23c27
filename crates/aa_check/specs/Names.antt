-- Profiles whose names come twice.
-- Source: own.
use Rattle.std.specs.Prelude.{ℕ, ◌≡◌, List, ◌++◌, flat_map, find, position, codes, Bool, Option, Some, None, option_map, option_to_list, if◌then◌else◌}
use Rattle.std.specs.Option.{option_or}
use Rattle.std.specs.List.{list_any}
use Rattle.std.specs.HashMap.{HashMap, get_by}
use Rattle.std.specs.Str.{bytes_eq}
use Rattle.std.specs.declared.vec.Vec.{Vec}
use Rattle.aa_files.specs.Texts.{texts}
use Rattle.aa_base.specs.Values.{value}
use Rattle.aa_check.specs.declared.report.ProfileReport.{ProfileReport}
use Rattle.aa_check.specs.declared.report.FileReport.{FileReport}

-- the profile has that name
abbrev pub is_called : List ℕ → ProfileReport → Bool
is_called name p = bytes_eq name p.name.items

-- a file has a profile of that name
abbrev pub has_name : List ℕ → FileReport → Bool
has_name name f = list_any (is_called name) f.profiles.items

-- the first file that has a profile of that name
abbrev pub first_with : List ℕ → List FileReport → Option FileReport
first_with name files = find (has_name name) files

-- a file has a profile whose name an earlier one has
unfoldable pub twice_text : List ℕ → List ℕ → List ℕ → List ℕ
twice_text path name earlier = path ++ codes ": the profile " ++ value name ++ codes " is in " ++ earlier ++ codes " too"

-- what is said of a name that two files have
abbrev pub twice_by : FileReport → List ℕ → FileReport → List ℕ
twice_by f name earlier = twice_text f.path.items name earlier.path.items

-- the warning of a profile, if an earlier file has one of its name
abbrev pub warning_of : List FileReport → FileReport → ProfileReport → List (List ℕ)
warning_of files f p = option_to_list (option_map (twice_by f p.name.items) (first_with p.name.items files))

-- the warnings of a file's profiles, in order, by the files before it
abbrev pub warnings_of : List FileReport → FileReport → List (List ℕ)
warnings_of files f = flat_map (warning_of files f) f.profiles.items

-- for each name the map has the number of the first file that has a profile of that name, and else nothing
abbrev pub IsFirst : {Y S : Type 0} → HashMap (Vec ℕ Y) ℕ S → List FileReport → Type 0
IsFirst first files = (name : List ℕ) → get_by (λ k. bytes_eq name k.items) first ≡ position (has_name name) files

-- the map has that number for these names besides, unless it had one
abbrev pub AddsNames : {Y S : Type 0} → HashMap (Vec ℕ Y) ℕ S → List ProfileReport → ℕ → HashMap (Vec ℕ Y) ℕ S → Type 0
AddsNames before profiles number after =
    (name : List ℕ) → get_by (λ k. bytes_eq name k.items) after ≡ option_or (get_by (λ k. bytes_eq name k.items) before) (if list_any (is_called name) profiles then Some number else None)

-- the same file with the warnings of its names
pub record IsWarned (files : List FileReport) (before after : FileReport) : Type 0 where
  pub path : after.path ≡ before.path
  pub fault : after.fault ≡ before.fault
  pub further : after.further ≡ before.further
  pub is_unread : after.is_unread ≡ before.is_unread
  pub held : after.held ≡ before.held
  pub profiles : after.profiles ≡ before.profiles
  pub passed_over : after.passed_over ≡ before.passed_over
  pub warnings : texts after.warnings.items ≡ warnings_of files before
