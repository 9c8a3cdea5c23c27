use Rattle.std.proofs.Common.{◌≡◌, ◌<◌, length, subst, ap, ◌∙◌, sym, Some, None, ◌∷◌, List, set, map}
use Rattle.std.specs.Prelude.{ℕ, slice_get}
use Rattle.std.specs.List.{position}
use Rattle.std.specs.Str.{bytes_eq}
use Rattle.std.proofs.lemmas.Result.{on_ok_weaker}
use Rattle.aa_files.specs.Texts.{texts}
use Rattle.aa_log.specs.declared.logging.SkippedLines.{SkippedLines}
use Rattle.aa_log.specs.Orders.{reason_key}
use Rattle.aa_merge.proofs.Further.{no_more}
use Rattle.aa_merge.proofs.Placed.{get_there}
use Rattle.aa_merge.proofs.Rowing.{reason_again, reason_new}
use Rattle.aa_merge.proofs.rows.add_skipped.Goals as goal

pub returns-in_default-clause-rows : goal.returns-in_default-clause-rows
returns-in_default-clause-rows c =
    let r = c.args.row.now in
    let key : List ℕ = r.reason.0 ∷ r.reason.1.now in
    let none : position (λ (s : SkippedLines). bytes_eq (reason_key s) key) c.args.skipped.now.items ≡ None =
    ap (position (λ (s : SkippedLines). bytes_eq (reason_key s) key)) (sym c.as_slice.ensures.value) ∙ sym c.place_of.ensures.place ∙ c.in_default.is in
    on_ok_weaker c.push_skipped.result
    (λ h rows e. h rows e ∙ ap (map Some)
    (sym (reason_new (texts c.args.paths.now.items) c.args.skipped.now.items rows r none e))) c.push_skipped.ensures.rows

pub returns-clause-rows : goal.returns-clause-rows
returns-clause-rows c = λ rows f.
    let r = c.args.row.now in
    let key : List ℕ = r.reason.0 ∷ r.reason.1.now in
    let e : SkippedLines = c.index_mut-known.result.now in
    let found : position (λ (s : SkippedLines). bytes_eq (reason_key s) key) c.args.skipped.now.items ≡ Some c.in-Some.number =
    ap (position (λ (s : SkippedLines). bytes_eq (reason_key s) key)) (sym c.as_slice.ensures.value) ∙ sym c.place_of.ensures.place ∙ c.in-Some.is in
    let within : c.in-Some.number < length c.args.skipped.now.items = subst
    (λ (l : List SkippedLines). c.in-Some.number < length l) c.as_slice.ensures.value c.in-Some.ensures.within in
    let there : slice_get c.args.skipped.now.items c.in-Some.number ≡ Some e = get_there c.args.skipped.now.items c.in-Some.number e within
    ∙ ap Some (sym c.index_mut-known.ensures.value) in
    reason_again (texts c.args.paths.now.items) c.args.skipped.now.items _ rows c.in-Some.number e r found there
    (ap (λ (n : ℕ). set c.args.skipped.now.items c.in-Some.number
    (record { reason = e.reason; count = n; first = e.first })) c.saturating_add-known.ensures) f

pub returns-clause-paths : goal.returns-clause-paths
returns-clause-paths c = no_more (texts c.args.paths.now.items)
