-- What `lint` finds, as JSON.
-- Source: own.
use Rattle.std.specs.Prelude.{ℕ, List, ◌++◌, map, codes, decimal, Option, Some, option_map}
use Rattle.aa_text.specs.Jsons.{json_text, json_bytes, json_place, key_text, member_text, member_if, list_text}
use Rattle.aa_lint.specs.Names.{name_of}
use Rattle.aa_lint.specs.Telling.{Standing, Telling}
use Rattle.aa_command.specs.Untold.{Untelling, json_untold}
use Rattle.aa_lint.specs.Shown.{why_text}

-- a place in a file, as an object
unfoldable pub json_standing : Standing → List ℕ
json_standing s = codes "{" ++ json_place s.path (Some s.place) ++ codes "}"

-- how a finding is called, and where it stands
unfoldable pub json_named : Telling → List ℕ
json_named t = codes "{" ++ key_text (codes "name") ++ json_text (name_of t.kind) ++ codes "," ++ json_place t.at.path (Some t.at.place)

-- of which profile it is one, and why
unfoldable pub json_why : Telling → List ℕ
json_why t = member_text (codes "profile") (json_bytes t.profile) ++ member_text (codes "why") (json_bytes (why_text t))

-- bytes as a member, where there are some
abbrev pub bytes_if : List ℕ → Option (List ℕ) → List ℕ
bytes_if key bytes = member_if key (option_map json_bytes bytes)

-- what is told beside: where the rule stands that is said again, which profile ties, a path that shows it, the rule
unfoldable pub json_beside : Telling → List ℕ
json_beside t =
    member_if (codes "earlier") (option_map json_standing t.earlier) ++ bytes_if (codes "other") t.other ++ bytes_if (codes "as") t.witness ++ bytes_if (codes "rule") t.rule

-- a finding as an object
unfoldable pub json_finding : Telling → List ℕ
json_finding t = json_named t ++ json_why t ++ json_beside t ++ codes "}"

-- the findings, as the first member of an object
unfoldable pub json_findings : List Telling → List ℕ
json_findings told = codes "{" ++ key_text (codes "findings") ++ list_text (map json_finding told)

-- the one object: what is found, of which profiles nothing can be, and how many files are skipped
abbrev pub json_lint : ℕ → List Telling → List Untelling → List ℕ
json_lint skipped told untold =
    json_findings told ++ member_text (codes "untold") (list_text (map json_untold untold)) ++ member_text (codes "skipped_files") (decimal skipped) ++ codes "}\n"
