-- What `lint` finds, as a SARIF log.
-- Source: SARIF 2.1.0, sections 3.14, 3.20, 3.27; own.
use Rattle.std.specs.Prelude.{ℕ, List, ◌++◌, map, codes, Some}
use Rattle.aa_text.specs.Jsons.{member_text, list_text}
use Rattle.aa_check.specs.declared.sarif.Level.TheVariants.{Warning}
use Rattle.aa_check.specs.Sarif.{message_text, location_text, rule_members, run_member, sarif_head}
use Rattle.aa_lint.specs.Names.{name_of}
use Rattle.aa_lint.specs.Telling.{Telling}
use Rattle.aa_command.specs.Untold.{Untelling}
use Rattle.aa_lint.specs.Shown.{finding_text}

-- a finding, with its place
unfoldable pub result_text : Telling → List ℕ
result_text t =
    rule_members Warning (name_of t.kind) ++ member_text (codes "message") (message_text (finding_text t))
    ++ member_text (codes "locations") (location_text t.at.path (Some t.at.place)) ++ codes "}"

-- the findings
abbrev pub results_member : List Telling → List ℕ
results_member told = member_text (codes "results") (list_text (map result_text told))

-- the one object
abbrev pub sarif_lint : List Telling → List Untelling → List ℕ
sarif_lint told untold = sarif_head ++ results_member told ++ run_member untold ++ codes "}]}\n"
