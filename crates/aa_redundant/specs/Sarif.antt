-- Redundant rules as a SARIF log.
-- Source: SARIF 2.1.0, sections 3.14, 3.20, 3.27; own.
use Rattle.std.specs.Prelude.{ℕ, List, ◌++◌, map, codes, Some}
use Rattle.aa_text.specs.Jsons.{member_text, list_text}
use Rattle.aa_check.specs.declared.sarif.Level.TheVariants.{Warning}
use Rattle.aa_check.specs.Sarif.{message_text, location_text, rule_members, run_member, sarif_head}
use Rattle.aa_redundant.specs.Told.{Explained}
use Rattle.aa_command.specs.Untold.{Untelling}
use Rattle.aa_redundant.specs.Shown.{finding_text}

-- a redundant rule, with its place
unfoldable pub result_text : Explained → List ℕ
result_text e =
    rule_members Warning (codes "redundant") ++ member_text (codes "message") (message_text (finding_text e))
    ++ member_text (codes "locations") (location_text e.rule.path (Some e.rule.place)) ++ codes "}"

-- those that can go by themselves
abbrev pub results_member : List Explained → List ℕ
results_member redundant = member_text (codes "results") (list_text (map result_text redundant))

-- the one object
abbrev pub sarif_rules : List Explained → List Untelling → List ℕ
sarif_rules redundant untold = sarif_head ++ results_member redundant ++ run_member untold ++ codes "}]}\n"
