use Rattle.std.proofs.Common.{refl, ◌≡◌, ◌+◌, ◌*◌, ap, ◌∙◌, arith}
use Rattle.aa_text.specs.Places.{place_in}
use Rattle.aa_text.proofs.Counting.{kept_first, kept_more, kept_long, kept_all}
use Rattle.aa_text.proofs.placed.PlacedText.new.Goals as goal

pub loop-number-init : goal.loop-number-init
loop-number-init c = kept_first c.args.text.now c.new-kept.result.items (record { line = 1; column = 1 }) c.new-kept.ensures.items refl

pub place_from-place-requires-clause-place : goal.place_from-place-requires-clause-place
place_from-place-requires-clause-place c = c.loop-number.invariant.1 (omega arith)

pub loop-number-preserved : goal.loop-number-preserved
loop-number-preserved c =
    let i = c.loop-number.invariant in
    let text = c.args.text.now in
    let number = c.loop-number.number in (
      kept_long c.loop-number.kept.items c.push.new.self.items c.loop-number.place number i.0 c.in_ok-push.ensures.items,
      λ inside. c.place_from-place.ensures ∙ (let e : c.min.result ≡ 256 * (number + 1) = omega arith in ap (place_in text) e),
      kept_more text c.loop-number.kept.items c.push.new.self.items c.loop-number.place number i.0 c.in_ok-push.ensures.items (i.1 (omega arith)) i.2,
    )

pub invariant_of-result : goal.invariant_of-result
invariant_of-result c = kept_all c.args.text.now c.loop-number.kept.items c.loop-number.number (omega arith) c.loop-number.invariant.2
