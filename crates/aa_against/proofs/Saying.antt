-- What is printed of logs where files are skipped, as JSON or as text.
use Rattle.std.proofs.Common.{◌≡◌, ℕ, List, [], ◌++◌, flat_map, Bool, true, false, MatchBool, sym, ap, subst, ◌∙◌}
use Rattle.aa_files.specs.Texts.{slices}
use Rattle.aa_logs.specs.declared.counts.Counts.{Counts}
use Rattle.aa_command.specs.declared.decided.Decided.{Decided}
use Rattle.aa_skipped.specs.declared.skipped.Skipped.{Skipped}
use Rattle.aa_log.specs.declared.logging.Entry.{Entry}
use Rattle.aa_log.specs.declared.logging.SkippedLines.{SkippedLines}
use Rattle.aa_log.specs.declared.logging.LogReport.{LogReport}
use Rattle.aa_log.specs.declared.said.SaidReport.{SaidReport}
use Rattle.aa_log.specs.declared.command.LogOptions.{LogOptions}
use Rattle.aa_log.specs.Orders.{profile_of, reason_key, IsInOrder}
use Rattle.aa_log.specs.Listed.{json_rest}
use Rattle.aa_log.specs.Against.{IsNewlyDenied, AreCounted, changes_text, json_answers}
use Rattle.aa_against.specs.Parted.{OpenData, decided_among, open_among}
use Rattle.aa_against.specs.Texts.{open_text, ends_text, json_opens, IsPartText, IsJsonPart}
use Rattle.aa_against.specs.Command.{IsPartSaid, part_status}

-- so much is said by that, behind what stands there
abbrev pub Says : (Counts → List OpenData → List ℕ → Type 0) → List ℕ → List ℕ → ℕ → Type 0
Says P old new status = (counts : Counts) × (opens : List OpenData) × (text : List ℕ) × P counts opens text × (new ≡ old ++ text) × (status ≡ part_status counts opens)

-- so much, where nothing stands there
abbrev pub SaysAll : (Counts → List OpenData → List ℕ → Type 0) → List ℕ → List ℕ → ℕ → Type 0
SaysAll P old new status = (counts : Counts) × (opens : List OpenData) × (text : List ℕ) × P counts opens text × (old ≡ [] → new ≡ text) × (status ≡ part_status counts opens)

module _ (o : LogOptions) (s : SaidReport) (skipped : List Skipped) (d : Decided) (old new : List ℕ) (status : ℕ) where
  abbrev Json : Counts → List OpenData → List ℕ → Type 0
  Json = IsJsonPart (slices o.logs.now) d skipped o.wants_all s

  abbrev Plain : Counts → List OpenData → List ℕ → Type 0
  Plain = IsPartText (slices o.logs.now) d skipped o.wants_all s.report

  pub json_said : o.is_json ≡ true → Says Json old new status → SaysAll (IsPartSaid o s skipped d) old new status
  json_said is t = (t.0, t.1, t.2, subst (λ (b : Bool). MatchBool b (Json t.0 t.1 t.2) (Plain t.0 t.1 t.2)) (sym is) t.3, λ e. t.4 ∙ ap (λ (l : List ℕ). l ++ t.2) e, t.5)

  pub text_said : o.is_json ≡ false → Says Plain old new status → SaysAll (IsPartSaid o s skipped d) old new status
  text_said is t = (t.0, t.1, t.2, subst (λ (b : Bool). MatchBool b (Json t.0 t.1 t.2) (Plain t.0 t.1 t.2)) (sym is) t.3, λ e. t.4 ∙ ap (λ (l : List ℕ). l ++ t.2) e, t.5)

-- requests in their order, those that are decided and the others
module _ (logs : List (List ℕ)) (d : Decided) (skipped : List Skipped) (all : Bool) (es decided : List Entry) (opens : List OpenData) (counts : Counts)
    (decided_are : decided ≡ decided_among d skipped es) (opens_are : opens ≡ open_among d skipped es) (newly : IsNewlyDenied d decided counts) (counted : AreCounted d decided counts)
    (old new : List ℕ) (status : ℕ) (ends : status ≡ part_status counts opens) where
  pub text_part : (r : LogReport) → IsInOrder profile_of r.entries.items es
      → new ≡ old ++ (changes_text logs d all decided ++ flat_map (open_text logs) opens ++ ends_text logs r counts opens) → Says (IsPartText logs d skipped all r) old new status
  text_part r ordered printed = (
    counts,
    opens,
    changes_text logs d all decided ++ flat_map (open_text logs) opens ++ ends_text logs r counts opens,
    record {
      entries = es;
      ordered = ordered;
      opens_are = opens_are;
      newly = subst (λ (l : List Entry). IsNewlyDenied d l counts) decided_are newly;
      counted = subst (λ (l : List Entry). AreCounted d l counts) decided_are counted;
      printed = ap (λ (l : List Entry). changes_text logs d all l ++ flat_map (open_text logs) opens ++ ends_text logs r counts opens) decided_are
          ∙ ap (λ (l : List OpenData). changes_text logs d all (decided_among d skipped es) ++ flat_map (open_text logs) l ++ ends_text logs r counts l) opens_are;
    },
    printed,
    ends,
  )

  pub json_part : (s : SaidReport) (reasons : List SkippedLines) → IsInOrder profile_of s.report.entries.items es → IsInOrder reason_key s.report.skipped.items reasons
      → new ≡ old ++ (json_answers logs d all decided counts ++ json_opens logs opens ++ json_rest logs reasons s) → Says (IsJsonPart logs d skipped all s) old new status
  json_part s reasons ordered by_reason printed = (
    counts,
    opens,
    json_answers logs d all decided counts ++ json_opens logs opens ++ json_rest logs reasons s,
    record {
      entries = es;
      ordered = ordered;
      reasons = reasons;
      by_reason = by_reason;
      opens_are = opens_are;
      newly = subst (λ (l : List Entry). IsNewlyDenied d l counts) decided_are newly;
      counted = subst (λ (l : List Entry). AreCounted d l counts) decided_are counted;
      printed = ap (λ (l : List Entry). json_answers logs d all l counts ++ json_opens logs opens ++ json_rest logs reasons s) decided_are
          ∙ ap (λ (l : List OpenData). json_answers logs d all (decided_among d skipped es) counts ++ json_opens logs l ++ json_rest logs reasons s) opens_are;
    },
    printed,
    ends,
  )
