use Rattle.std.proofs.Common.{◌≡◌, true, false, ℕ, List, drop, ap, sym, ◌∙◌}
use Rattle.std.specs.Prelude.{nat_eq}
use Rattle.std.specs.List.{starts_with}
use Rattle.aa_logs.proofs.Pieces.{all_behind}
use Rattle.aa_logs.proofs.Found.{place_found, place_onward, place_nowhere}
use Rattle.aa_logs.proofs.field.place_of.Goals as goal

pub returns-then-begins-clause-value : goal.returns-then-begins-clause-value
returns-then-begins-clause-value c =
    let here : starts_with nat_eq (drop c.loop-at.at c.args.text.now) c.args.part.now ≡ true = ap (λ (u : List ℕ). starts_with nat_eq u c.args.part.now)
    (sym (all_behind c.loop-at.at c.args.text.now)) ∙ sym c.if-begins.ensures.value in
    place_found c.args.part.now c.args.text.now c.loop-at.at _ c.loop-at-test.true here c.loop-at.invariant

pub loop-at-preserved : goal.loop-at-preserved
loop-at-preserved c =
    let here : starts_with nat_eq (drop c.loop-at.at c.args.text.now) c.args.part.now ≡ false = ap (λ (u : List ℕ). starts_with nat_eq u c.args.part.now)
    (sym (all_behind c.loop-at.at c.args.text.now)) ∙ sym c.if-begins.ensures.value in
    place_onward c.args.part.now c.args.text.now c.loop-at.at _ c.loop-at-test.true here c.loop-at.invariant

pub returns-clause-value : goal.returns-clause-value
returns-clause-value c = place_nowhere c.args.part.now c.args.text.now c.loop-at.at _ c.loop-at-test.false c.loop-at.invariant
