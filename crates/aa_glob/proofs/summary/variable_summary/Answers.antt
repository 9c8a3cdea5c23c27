use Rattle.std.proofs.lemmas.Grind.{common_steps}
use Rattle.std.proofs.Common.{◌≡◌, ◌+◌, ◌++◌, [], ◌∷◌, ◌∙◌, ap, arith, drop, get_or, List, subst, sym, Vec, ℕ, Global}
use Rattle.std.proofs.lemmas.List.{append-nil, at_drop_all, drop_more}
use Rattle.aa_glob.specs.Expansions.{in_turn, outcome, outcome_of}
use Rattle.aa_glob.specs.Settled.{AreEnds, Settled, plus}
use Rattle.aa_glob.specs.Known.{AreTextsKnown}
use Rattle.aa_glob.specs.Ways.{items_of}
use Rattle.aa_glob.specs.declared.summary.Summary.{Summary}
use Rattle.aa_glob.proofs.Summaries.{GoesOn, ends_more, settled_variable, values_start, values_more, values_end}
use Rattle.aa_glob.proofs.summary.variable_summary.Goals as goal

pub loop-value-init : goal.loop-value-init
loop-value-init c = grind (arith, common_steps, values_start)

pub text_summary-requires : goal.text_summary-requires
text_summary-requires c = grind (arith, common_steps, drop_more)

pub loop-value-preserved : goal.loop-value-preserved
loop-value-preserved c =
    let v = (get_or c.args.values.now c.loop-value.value-index c.value-item.result).items in
    let behind = items_of (drop (c.loop-value.value-index + 1) c.args.values.now) in
    let next : items_of (drop c.loop-value.value-index c.args.values.now) ≡ v ∷ behind =
    ap items_of (drop_more c.args.values.now c.loop-value.value-index c.value-item.result c.loop-value-test.true) in
    let is : c.as_slice.result.now ≡ v = c.as_slice.ensures.value ∙ ap (λ (x : Vec ℕ Global). x.items) c.value-item.is in
    record {
      known = (subst (AreTextsKnown c.args.done.now.entries) next c.loop-value.invariant.known).1;
      small = omega (arith, ap (λ (s : Summary). s.count) c.plus-summary.ensures);
      goes = λ depth vars right.
          subst (GoesOn plus (in_turn (outcome depth vars) (items_of c.args.values.now)) (in_turn (outcome depth vars) behind)) (sym c.plus-summary.ensures)
          (values_more depth vars _ v behind _ _ _ next (subst (λ (t : List ℕ). Settled (outcome_of depth vars t) c.text_summary.result) is (c.text_summary.ensures depth vars right)) (c.loop-value.invariant.goes depth vars right));
      ends = λ depth vars right es h.
          ends_more depth vars (items_of c.args.values.now) c.loop-value.ends.items _ v behind _ c.loop-value.summary c.text_summary.result c.loop-value.invariant.small next
          (c.in_ok-push.ensures.items ∙ ap (λ (s : Summary). c.loop-value.ends.items ++ s.count ∷ []) c.plus-summary.ensures)
          (subst (λ (t : List ℕ). Settled (outcome_of depth vars t) c.text_summary.result) is (c.text_summary.ensures depth vars right)) (c.loop-value.invariant.ends depth vars right) es
          (subst (λ (s : Summary). AreEnds vars s.count behind es) c.plus-summary.ensures h);
    }

pub returns-clause-texts : goal.returns-clause-texts
returns-clause-texts c = λ depth vars name right plain defined.
    settled_variable depth vars name _ c.loop-value.summary c.counted.result plain defined c.counted.ensures.count c.counted.ensures.many c.counted.ensures.blank
    (values_end depth vars _ _ _ (at_drop_all items_of c.args.values.now c.loop-value.value-index c.loop-value-test.false) c.loop-value.invariant.small (c.loop-value.invariant.goes depth vars right))

pub returns-clause-ends : goal.returns-clause-ends
returns-clause-ends c = λ depth vars right.
    subst (AreEnds vars 0 (items_of c.args.values.now)) (append-nil c.loop-value.ends.items)
    (c.loop-value.invariant.ends depth vars right [] (subst (λ (l : List (List ℕ)). AreEnds vars c.loop-value.summary.count l []) (sym (at_drop_all items_of c.args.values.now c.loop-value.value-index c.loop-value-test.false)) tt))
