use Rattle.std.proofs.Common.{List, Option, refl, sym, subst, ◌∙◌}
use Rattle.aa_claims.specs.declared.words.ClaimWord.{ClaimWord}
use Rattle.aa_claims.specs.Faults.{SaysAt}
use Rattle.aa_claims.proofs.Claims.{handed_on}
use Rattle.aa_assert.specs.Scope.{AreSomebody}
use Rattle.aa_assert.specs.Refused.{IsUnnamed, OfNobody}
use Rattle.aa_assert.proofs.Unanswered.{not_named, not_excepted, not_led}
use Rattle.aa_assert.proofs.stating.check_scope.Goals as goal

pub returns-in_err-check_names-clause-refused : goal.returns-in_err-check_names-clause-refused
returns-in_err-check_names-clause-refused c =
    let e = c.in_err-check_names.field-0.0 in
    let why = subst (λ (o : Option (List ClaimWord)). SaysAt (IsUnnamed c.args.part o) e) c.names_within.ensures c.in_err-check_names.ensures.refused in
    handed_on c.from_residual.result _ _ c.from_residual.ensures.1 (λ y p. rw p (not_named c.args.part c.args.words.now c.args.head.now e why))

pub returns-in_err-check_names-2-clause-refused : goal.returns-in_err-check_names-2-clause-refused
returns-in_err-check_names-2-clause-refused c =
    let r = c.from_residual-in_err-check_names-2 in
    let e = c.in_err-check_names-2.field-0.0 in
    let within = subst (λ (o : Option (List ClaimWord)). AreSomebody c.args.part o) c.names_within.ensures c.in_ok-check_names.ensures.named in
    let why = subst (λ (o : Option (List ClaimWord)). SaysAt (IsUnnamed c.args.part o) e) c.names_behind.ensures c.in_err-check_names-2.ensures.refused in
    handed_on r.result _ _ r.ensures.1 (λ y p. rw p (not_excepted c.args.part c.args.words.now c.args.head.now e within why))

pub returns-in_err-check_names-3-clause-refused : goal.returns-in_err-check_names-3-clause-refused
returns-in_err-check_names-3-clause-refused c =
    let r = c.from_residual-in_err-check_names-3 in
    let e = c.in_err-check_names-3.field-0.0 in
    let within = subst (λ (o : Option (List ClaimWord)). AreSomebody c.args.part o) c.names_within.ensures c.in_ok-check_names.ensures.named in
    let excepted = subst (λ (o : Option (List ClaimWord)). AreSomebody c.args.part o) c.names_behind.ensures c.in_ok-check_names-2.ensures.named in
    let why = subst (λ (o : Option (List ClaimWord)). SaysAt (IsUnnamed c.args.part o) e) c.names_led.ensures c.in_err-check_names-3.ensures.refused in
    handed_on r.result _ _ r.ensures.1 (λ y p. rw p (not_led c.args.part c.args.words.now c.args.head.now e within excepted why))

pub returns-then-not-branch-clause-refused : goal.returns-then-not-branch-clause-refused
returns-then-not-branch-clause-refused c =
    OfNobody
    (subst (λ (o : Option (List ClaimWord)). AreSomebody c.args.part o) c.names_within.ensures c.in_ok-check_names.ensures.named)
    (subst (λ (o : Option (List ClaimWord)). AreSomebody c.args.part o) c.names_behind.ensures c.in_ok-check_names-2.ensures.named)
    (subst (λ (o : Option (List ClaimWord)). AreSomebody c.args.part o) c.names_led.ensures c.in_ok-check_names-3.ensures.named)
    refl refl (sym c.in_ok-is_about_some.ensures ∙ c.if-not-branch.true)

pub returns-clause-in_scope : goal.returns-clause-in_scope
returns-clause-in_scope c = record {
  within = subst (λ (o : Option (List ClaimWord)). AreSomebody c.args.part o) c.names_within.ensures c.in_ok-check_names.ensures.named;
  excepted = subst (λ (o : Option (List ClaimWord)). AreSomebody c.args.part o) c.names_behind.ensures c.in_ok-check_names-2.ensures.named;
  led = subst (λ (o : Option (List ClaimWord)). AreSomebody c.args.part o) c.names_led.ensures c.in_ok-check_names-3.ensures.named;
  some = sym c.in_ok-is_about_some.ensures ∙ c.if-not-branch.false;
}
