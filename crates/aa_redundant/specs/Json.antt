-- Redundant rules as they are printed in JSON.
-- Source: own.
use Rattle.std.specs.Prelude.{ℕ, List, ◌++◌, map, codes, decimal, Some, Bool, if◌then◌else◌}
use Rattle.aa_text.specs.Jsons.{json_bytes, json_place, key_text, member_text, list_text}
use Rattle.aa_redundant.specs.Told.{Telling, Explained}
use Rattle.aa_command.specs.Untold.{Untelling, json_untold}

-- where a rule stands, and how it reads
unfoldable pub json_told : Telling → List ℕ
json_told t = codes "{" ++ json_place t.path (Some t.place) ++ member_text (codes "rule") (json_bytes t.text)

-- a rule
abbrev pub json_rule : Telling → List ℕ
json_rule t = json_told t ++ codes "}"

-- the key of the others, by whether they say what the rule says
abbrev pub reason_key : Bool → List ℕ
reason_key is_covered = if is_covered then codes "covered_by" else codes "overruled_by"

-- a redundant rule, and beside which others
unfoldable pub json_explained : Explained → List ℕ
json_explained e = json_told e.rule ++ member_text (reason_key e.is_covered) (list_text (map json_rule e.others)) ++ codes "}"

-- those that can go by themselves, those that can go together, and those that may lead to profiles of skipped files
unfoldable pub json_listed : List Explained → List Telling → List Telling → List ℕ
json_listed redundant undecided going =
    codes "{" ++ key_text (codes "redundant") ++ list_text (map json_explained redundant) ++ member_text (codes "may_go") (list_text (map json_rule going))
    ++ member_text (codes "undecided") (list_text (map json_rule undecided))

-- how many rules decide nothing, and how many files are skipped
unfoldable pub json_counts : ℕ → ℕ → List ℕ
json_counts passed skipped = member_text (codes "passed_over") (decimal passed) ++ member_text (codes "skipped_files") (decimal skipped)

-- the one object, with the profiles of which it can't be told
unfoldable pub json_rules : ℕ → ℕ → List Explained → List Untelling → List Telling → List Telling → List ℕ
json_rules passed skipped redundant untold undecided going =
    json_listed redundant undecided going ++ member_text (codes "untold") (list_text (map json_untold untold)) ++ json_counts passed skipped ++ codes "}\n"
