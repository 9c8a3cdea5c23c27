use Rattle.aa_claims.proofs.Claims.{handed_on}
use Rattle.aa_assert.proofs.Unanswered.{not_said, of_others, of_nothing}
use Rattle.aa_assert.proofs.stating.said_by.Goals as goal

pub returns-in_err-asked-clause-refused : goal.returns-in_err-asked-clause-refused
returns-in_err-asked-clause-refused c =
    handed_on c.from_residual.result _ _ c.from_residual.ensures.1
    (λ y p. rw p (not_said c.args.part c.args.words.now c.args.head.now c.args.word.now c.in_err-asked.field-0.0
    c.in_err-asked.ensures.refused))

pub returns-in_err-check_scope-clause-refused : goal.returns-in_err-check_scope-clause-refused
returns-in_err-check_scope-clause-refused c =
    let r = c.from_residual-in_err-check_scope in
    handed_on r.result _ _ r.ensures.1
    (λ y p. rw p (of_others c.args.part c.args.words.now c.args.head.now c.args.word.now c.in_err-check_scope.field-0.0
    c.in_ok-asked.asked c.in_ok-asked.ensures.asked c.in_err-check_scope.ensures.refused))

pub returns-clause-stated : goal.returns-clause-stated
returns-clause-stated c = record {
  is_asked = c.in_ok-asked.ensures.asked;
  scope = c.in_ok-check_scope.ensures.in_scope;
  breakable = c.in_ok-check_breakable.ensures.breakable;
}

pub returns-in_err-check_breakable-clause-refused : goal.returns-in_err-check_breakable-clause-refused
returns-in_err-check_breakable-clause-refused c =
    let r = c.from_residual-in_err-check_breakable in
    handed_on r.result _ _ r.ensures.1
    (λ y p. rw p (of_nothing c.args.part c.args.words.now c.args.head.now c.args.word.now c.in_err-check_breakable.field-0.0
    c.in_ok-asked.asked c.in_ok-asked.ensures.asked c.in_ok-check_scope.ensures.in_scope c.in_err-check_breakable.ensures.refused))
