use Rattle.std.proofs.Common.{◌∙◌, ◌++◌, List, map, refl, sym, subst, ap, append_assoc, Bor}
use Rattle.std.specs.Prelude.{ℕ}
use Rattle.aa_log.specs.declared.logging.Entry.{Entry}
use Rattle.aa_log.specs.declared.logging.SkippedLines.{SkippedLines}
use Rattle.aa_log.specs.Orders.{profile_of, reason_key, IsInOrder}
use Rattle.aa_log.specs.Listed.{json_rest}
use Rattle.aa_log.specs.Against.{json_answers}
use Rattle.aa_log.proofs.against.push_json_against.Goals as goal

pub returns : goal.returns
returns c =
    let logs : List (List ℕ) = map (λ (log : Bor (List ℕ)). log.now) c.args.logs.now in
    let es : List Entry = map (λ (e : Bor Entry). e.now) c.as_slice-listed.result.now in
    let rs : List SkippedLines = map (λ (s : Bor SkippedLines). s.now) c.as_slice-causes.result.now in
    let first = json_answers logs c.args.decided c.args.wants_all es c.in_ok-counts.counts in
    let rest = json_rest logs rs c.args.said.now in (
      first ++ rest,
      record {
        entries = es;
        ordered = subst (λ (l : List (Bor Entry)). IsInOrder profile_of c.args.said.now.report.entries.items (map (λ (e : Bor Entry). e.now) l)) (sym c.as_slice-listed.ensures.value) c.in_ok-entries.ensures;
        reasons = rs;
        by_reason = subst (λ (l : List (Bor SkippedLines)). IsInOrder reason_key c.args.said.now.report.skipped.items (map (λ (s : Bor SkippedLines). s.now) l)) (sym c.as_slice-causes.ensures.value) c.in_ok-reasons.ensures;
        newly = c.in_ok-counts.ensures.newly;
        counted = c.in_ok-counts.ensures.counted;
        printed = refl;
      },
      c.in_ok-push_json_rest.ensures ∙ ap (λ (l : List ℕ). l ++ rest) c.in_ok-counts.ensures.text ∙ append_assoc c.args.out.now.items first rest,
    )
