use Rattle.std.proofs.Common.{◌≡◌, ap, ◌∙◌, sym, refl, Some, None, ◌∷◌, List, set}
use Rattle.std.specs.Prelude.{ℕ}
use Rattle.std.specs.List.{position}
use Rattle.std.specs.Str.{bytes_eq}
use Rattle.aa_log.specs.declared.logging.SkippedLines.{SkippedLines}
use Rattle.aa_log.specs.Orders.{reason_key}
use Rattle.aa_log.specs.Found.{Skipped}
use Rattle.aa_log.proofs.Reasons.{reason_again, reason_new}
use Rattle.aa_log.proofs.logging.count_reason.Goals as goal

pub returns-in_default : goal.returns-in_default
returns-in_default c = λ before f.
    let key : List ℕ = c.args.reason.0 ∷ c.args.reason.1.now in
    let k : Skipped = record { order = c.args.reason.0; name = c.args.reason.1.now; place = c.args.place } in
    let none : position (λ (s : SkippedLines). bytes_eq (reason_key s) key) c.args.skipped.now.items ≡ None =
    ap (position (λ (s : SkippedLines). bytes_eq (reason_key s) key)) (sym c.as_slice.ensures.value) ∙ sym c.place_of.ensures.place ∙ c.in_default.is in
    reason_new before c.args.skipped.now.items c.push.new.self.items (record { reason = c.args.reason; count = 1; first = c.args.place }) k none c.in_ok-push.ensures.items refl f

pub returns : goal.returns
returns c = λ before f.
    let key : List ℕ = c.args.reason.0 ∷ c.args.reason.1.now in
    let k : Skipped = record { order = c.args.reason.0; name = c.args.reason.1.now; place = c.args.place } in
    let e : SkippedLines = c.index_mut-known.result.now in
    let found : position (λ (s : SkippedLines). bytes_eq (reason_key s) key) c.args.skipped.now.items ≡ Some c.in-Some.number =
    ap (position (λ (s : SkippedLines). bytes_eq (reason_key s) key)) (sym c.as_slice.ensures.value) ∙ sym c.place_of.ensures.place ∙ c.in-Some.is in
    reason_again before c.args.skipped.now.items _ c.in-Some.number e k found c.index_mut-known.ensures.value
    (ap (λ (n : ℕ). set c.args.skipped.now.items c.in-Some.number (record { reason = e.reason; count = n; first = e.first })) c.saturating_add-known.ensures) f
