-- What is told of claims, as a SARIF log.
-- Source: SARIF 2.1.0, sections 3.14, 3.20, 3.27; own.
use Rattle.std.specs.Prelude.{ℕ, List, [], ◌==◌, ◌++◌, length, map, flat_map, codes, Some}
use Rattle.aa_text.specs.Jsons.{member_text, list_text}
use Rattle.aa_check.specs.declared.sarif.Level.{Level}
use Rattle.aa_check.specs.declared.sarif.Level.TheVariants.{Error, Warning}
use Rattle.aa_check.specs.Sarif.{message_text, location_text, related_text, rule_members, notification_text, invocations_text, sarif_head}
use Rattle.aa_ask.specs.Named.{Named}
use Rattle.aa_undecided.specs.Answers.{PlacedFile}
use Rattle.aa_who.specs.Untold.{Untold}
use Rattle.aa_assert.specs.declared.kind.Kind.{Kind}
use Rattle.aa_assert.specs.Answers.{Answered}
use Rattle.aa_assert.specs.Findings.{Found}
use Rattle.aa_assert.specs.Gcc.{line_place, rule_note, file_note, deciders_of, broken_note, apart_note}
use Rattle.aa_assert.specs.Kinds.{kind_name}
use Rattle.aa_assert.specs.Outcomes.{Outcome, Broken, Undecided, Apart, all_outcomes}

-- a rule that decided, where it stands
abbrev pub rule_text : Named → List ℕ
rule_text n = related_text n.path (Some n.place) (rule_note n)

-- a skipped file that could decide, where its fault lies
abbrev pub file_text : PlacedFile → List ℕ
file_text f = related_text f.at f.place (file_note f)

-- a result: its kind, how grave it is, what is told of the claim on that line of the file at that path, and places besides
unfoldable pub result_members : Level → Kind → List ℕ → List ℕ → ℕ → List (List ℕ) → List ℕ
result_members level kind message path number places =
    rule_members level (kind_name kind) ++ member_text (codes "message") (message_text message)
    ++ member_text (codes "locations") (location_text path (Some (line_place number))) ++ member_text (codes "relatedLocations") (list_text places) ++ codes "}"

-- a broken claim, with the rules; or an undecided one, with the files; or one that is broken at unclean paths alone, with the rules
abbrev pub result_text : List ℕ → Outcome → List ℕ
result_text path (Broken number kind f) = result_members Error kind (broken_note f) path number (map rule_text (deciders_of f))
result_text path (Undecided number kind files) = result_members Warning kind (codes "undecided") path number (map file_text files)
result_text path (Apart number kind f) = result_members Warning kind (apart_note f) path number (map rule_text (deciders_of f))

-- all
abbrev pub results_member : List ℕ → List Answered → List ℕ
results_member path answers = member_text (codes "results") (list_text (map (result_text path) (all_outcomes answers)))

-- of whom it can't be told whether they break a claim
abbrev pub all_untold : List Answered → List Untold
all_untold answers = flat_map (λ (a : Answered). a.found.untold) answers

-- one such
abbrev pub note_text : Untold → List ℕ
note_text u = notification_text Error u.line

-- how the run went: it didn't look at all where of somebody nothing can be told
abbrev pub run_member : List Untold → List ℕ
run_member untold = member_text (codes "invocations") (invocations_text (length untold == 0) (map note_text untold))

-- the one object
abbrev pub sarif_answers : List ℕ → List Answered → List ℕ
sarif_answers path answers = sarif_head ++ results_member path answers ++ run_member (all_untold answers) ++ codes "}]}\n"
