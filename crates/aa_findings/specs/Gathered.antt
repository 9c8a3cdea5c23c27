-- What is found of the rules of a profile, in their order.
-- Source: own.
use Rattle.std.specs.Prelude.{ℕ, zero, suc, List, [], ◌∷◌, ◌++◌, length, take, Bool, false, Option, Some, None, position, if◌then◌else◌, flat_map}
use Rattle.std.specs.List.{slice_get}
use Rattle.std.specs.Option.{option_map_or}
use Rattle.aa_model.specs.declared.rule.FileRule.{FileRule}
use Rattle.aa_model.specs.declared.rule.CapRule.{CapRule}
use Rattle.aa_model.specs.declared.rule.NetRule.{NetRule}
use Rattle.aa_model.specs.declared.rule.ChangeRule.{ChangeRule}
use Rattle.aa_model.specs.declared.policy.Profile.{Profile}
use Rattle.aa_findings.specs.declared.finding.Finding.{Finding}
use Rattle.aa_findings.specs.declared.finding.Kind.{Kind}
use Rattle.aa_findings.specs.declared.finding.Kind.TheVariants.{UnconfinedExec, WrittenExec, AllFiles, AnyProfile, Duplicate, IdleDeny, Tie}
use Rattle.aa_findings.specs.declared.finding.Subject.{Subject}
use Rattle.aa_findings.specs.declared.finding.Subject.TheVariants as of
use Rattle.aa_findings.specs.declared.rows.Row.{Row}
use Rattle.aa_findings.specs.Rules.{is_any_profile}
use Rattle.aa_findings.specs.Files.{is_unconfined_exec, is_written_exec, is_on_all, is_idle, repeats}
use Rattle.aa_findings.specs.Sorts.{same_caps, is_idle_cap, same_nets, is_idle_net}
use Rattle.aa_findings.specs.Shortest.{nearest}

-- a finding with nothing beside it, if it is one
abbrev pub found_if : Bool → Kind → Subject → List Finding
found_if is_one kind subject = if is_one then record { kind = kind; subject = subject; other = None; path = None } ∷ [] else []

-- that an earlier rule is repeated, if one is
abbrev pub found_again : Option ℕ → Subject → List Finding
found_again None subject = []
found_again (Some n) subject = record { kind = Duplicate; subject = subject; other = Some n; path = None } ∷ []

-- a finding that a file shows
abbrev pub shows : Kind → FileRule → Row → Bool
shows UnconfinedExec r row = is_unconfined_exec r row
shows WrittenExec r row = is_written_exec r row
shows AllFiles r row = false
shows AnyProfile r row = false
shows Duplicate r row = false
shows IdleDeny r row = false
shows Tie r row = false

-- the path of a row that shows it
abbrev pub shown_at : Kind → FileRule → Row → List (List ℕ)
shown_at kind r row = if shows kind r row then row.path ∷ [] else []

-- the paths of all rows that do
abbrev pub shown_paths : Kind → List Row → FileRule → List (List ℕ)
shown_paths kind rows r = flat_map (shown_at kind r) rows

-- a finding with a path, if there is one
abbrev pub found_by : Kind → Option (List ℕ) → Subject → List Finding
found_by kind None subject = []
found_by kind (Some path) subject = record { kind = kind; subject = subject; other = None; path = Some path } ∷ []

-- with the first of the shortest of these paths
abbrev pub found_along : Kind → List (List ℕ) → Subject → List Finding
found_along kind paths subject = found_by kind (nearest paths (length paths)) subject

-- of rule n on files
unfoldable pub of_file : Bool → List Row → List FileRule → ℕ → FileRule → List Finding
of_file complain rows rules n r =
    found_along UnconfinedExec (shown_paths UnconfinedExec rows r) (of.File n) ++ found_along WrittenExec (shown_paths WrittenExec rows r) (of.File n)
    ++ found_if (is_on_all rows r) AllFiles (of.File n) ++ found_again (position (repeats rows r) (take n rules)) (of.File n) ++ found_if (is_idle complain rows r) IdleDeny (of.File n)

-- of the first n rules on files
abbrev pub files_before : Bool → List Row → List FileRule → ℕ → List Finding
files_before complain rows rules zero = []
files_before complain rows rules (suc n) = files_before complain rows rules n ++ option_map_or (of_file complain rows rules n) (slice_get rules n) []

-- of rule n on capabilities
unfoldable pub of_cap : Bool → List CapRule → ℕ → CapRule → List Finding
of_cap complain rules n r = found_again (position (same_caps r) (take n rules)) (of.Cap n) ++ found_if (is_idle_cap complain rules r) IdleDeny (of.Cap n)

-- of the first n of them
abbrev pub caps_before : Bool → List CapRule → ℕ → List Finding
caps_before complain rules zero = []
caps_before complain rules (suc n) = caps_before complain rules n ++ option_map_or (of_cap complain rules n) (slice_get rules n) []

-- of rule n on sockets
unfoldable pub of_net : Bool → List NetRule → ℕ → NetRule → List Finding
of_net complain rules n r = found_again (position (same_nets r) (take n rules)) (of.Net n) ++ found_if (is_idle_net complain rules r) IdleDeny (of.Net n)

-- of the first n of them
abbrev pub nets_before : Bool → List NetRule → ℕ → List Finding
nets_before complain rules zero = []
nets_before complain rules (suc n) = nets_before complain rules n ++ option_map_or (of_net complain rules n) (slice_get rules n) []

-- of rule n on changes of the profile
abbrev pub of_change : List ChangeRule → ℕ → ChangeRule → List Finding
of_change rules n r = found_if (is_any_profile rules r) AnyProfile (of.Change n)

-- of the first n of them
abbrev pub changes_before : List ChangeRule → ℕ → List Finding
changes_before rules zero = []
changes_before rules (suc n) = changes_before rules n ++ option_map_or (of_change rules n) (slice_get rules n) []

-- of all rules of a profile, by rows that stand for all files
unfoldable pub of_rules : List Row → Profile → List Finding
of_rules rows p =
    files_before p.complain rows p.files (length p.files) ++ caps_before p.complain p.caps (length p.caps) ++ nets_before p.complain p.nets (length p.nets) ++ changes_before p.changes (length p.changes)
