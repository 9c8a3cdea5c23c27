use Rattle.std.proofs.Common.{◌≡◌, ◌++◌, ◌∷◌, [], List, length, ap, sym, ◌∙◌}
use Rattle.std.specs.Prelude.{ℕ}
use Rattle.std.proofs.lemmas.List.{length-map}
use Rattle.aa_files.specs.Texts.{texts}
use Rattle.aa_log.specs.declared.logging.SkippedLines.{SkippedLines}
use Rattle.aa_merge.proofs.Rowing.{skipped_push}
use Rattle.aa_merge.proofs.rows.push_skipped.Goals as goal

pub returns : goal.returns
returns c =
    let r = c.args.row.now in
    let paths : List (List ℕ) = texts c.args.paths.now.items in
    let path : c.in_ok-path.path.items ≡ r.path.items = c.in_ok-path.ensures.items ∙ c.as_slice.ensures.value in
    let more : texts c.add_path.new.paths.items ≡ paths ++ r.path.items ∷ [] = c.in_ok-log.ensures.added
    ∙ ap (λ (b : List ℕ). paths ++ b ∷ []) path in
    let log : c.in_ok-log.log ≡ length paths = c.in_ok-log.ensures.number ∙ sym (length-map c.args.paths.now.items (λ v. v.items)) in
    let s : SkippedLines = record { reason = r.reason; count = r.count; first = record { log = c.in_ok-log.log; line = r.line } } in
    let s_is : s ≡ record { reason = r.reason; count = r.count; first = record { log = length paths; line = r.line } } = ap
    (λ (n : ℕ). record { reason = r.reason; count = r.count; first = record { log = n; line = r.line } }) log in
    record {
      rows = λ rows is. rw more (skipped_push paths c.args.skipped.now.items c.push.new.self.items rows s r c.in_ok-push.ensures.items s_is is);
      paths = (r.path.items ∷ [], more);
    }
