use Rattle.std.proofs.Common.{◌≡◌, ◌<◌, ◌≤◌, ◌+◌, IsTrue, Bool, false, refl, sym, ◌∙◌, subst, ⊎_elim, arith, get_or, set, length, length-set, get_or-set_other, get_or-set_same, true≢false}
use Rattle.std.proofs.lemmas.Bool.{cases_lt}
use Rattle.aa_pattern.proofs.FlagSteps.{begins_at, goes_at, follows_before}
use Rattle.aa_pattern.proofs.flags.follow_from.Goals as goal
use Rattle.aa_pattern.proofs.flags.follow_from.Goals.{then-before, else-before, then-ends, else-ends}

pub loop-i-init : goal.loop-i-init
loop-i-init c = record {
  at = begins_at c.args.item.now c.args.text.now c.args.flags.now (get_or c.args.flags.now c.args.span.first false) c.if-before.flags c.args.span.first c.requires.simple
      (omega (arith, c.requires.within.fits)) c.requires.long c.requires.within.before refl
      (elim c.if-before.branch [
        | then-before w ↦ (λ t. (w.if-before.true, w.is_skippable.ensures.0 (sym w.flags-is ∙ t)), λ p. w.flags-is ∙ w.is_skippable.ensures.1 p.1)
        | else-before w ↦ (λ t. absurd (true≢false (sym t ∙ w.flags-is ∙ w.if-before.false)), λ p. absurd (true≢false (sym p.0 ∙ w.if-before.false)))
      ]);
  before = λ k lt. get_or-set_other c.args.flags.now c.args.span.first k c.if-before.flags false (omega arith) ∙ c.requires.within.before k lt;
  behind = λ k a b. absurd (omega arith);
  last = omega arith;
}

pub returns-then-stops-clause-follows : goal.returns-then-stops-clause-follows
returns-then-stops-clause-follows c =
    let i = c.loop-i.i in let flags = c.loop-i.flags in let ends = c.goes-ends.result in
    let long : i + 1 < length flags = omega (arith, c.requires.long, c.loop-i.auto.flags, length-set {A = Bool}) in
    follows_before c.args.item.now c.args.text.now c.args.flags.now _ (get_or flags (i + 1) false) (i + 1) c.requires.simple
    (λ k le. c.requires.within.behind k (omega (arith, c.if-span-i.true)))
    (λ t. c.stops.ensures c.if-stops.true (subst IsTrue (get_or-set_same flags (i + 1) ends false long) t))
    (goes_at c.args.item.now c.args.text.now c.args.flags.now flags c.loop-i.before _ ends i c.requires.simple c.loop-i-test.true
    (omega (arith, c.requires.long, c.loop-i.auto.flags, length-set {A = Bool})) refl c.goes-ends.ensures c.loop-i.invariant.at)

pub loop-i-preserved : goal.loop-i-preserved
loop-i-preserved c =
    let i = c.loop-i.i in let flags = c.loop-i.flags in let ends = c.goes-ends.result in
    let long : i + 1 < length flags = omega (arith, c.requires.long, c.loop-i.auto.flags, length-set {A = Bool}) in record {
      at = goes_at c.args.item.now c.args.text.now c.args.flags.now flags c.loop-i.before _ ends i c.requires.simple c.loop-i-test.true
          (omega (arith, c.requires.long, c.loop-i.auto.flags, length-set {A = Bool})) refl c.goes-ends.ensures c.loop-i.invariant.at;
      before = λ k lt. get_or-set_other flags (i + 1) k ends false (omega (arith, c.loop-i.auto.i)) ∙ c.loop-i.invariant.before k lt;
      behind = λ k le lt. elim c.if-ends.branch [
        | then-ends w ↦ absurd (omega (arith, w.end-is))
        | else-ends w ↦ ⊎_elim
            (λ (less : k < i + 1). get_or-set_other flags (i + 1) k ends false (omega arith) ∙ c.loop-i.invariant.behind k (omega (arith, w.end-is)) (omega arith))
            (λ (more : i + 1 ≤ k).
            let k_is : i + 1 ≡ k = omega arith in
            subst (λ n. get_or (set flags (i + 1) ends) n false ≡ false) k_is (get_or-set_same flags (i + 1) ends false long ∙ w.if-ends.false))
            (cases_lt k (i + 1))
      ];
      last = elim c.if-ends.branch [ then-ends w ↦ omega (arith, w.end-is) | else-ends w ↦ omega (arith, w.end-is, c.loop-i.invariant.last) ];
    }
