use Rattle.aa_load.specs.UnitPolicy.{limit_of}
use Rattle.aa_claims.proofs.Claims.{handed_on}
use Rattle.aa_assert.proofs.Turns.{answers_next, empty_at}
use Rattle.aa_assert.proofs.answering.all_answers.Goals as goal

pub loop-stated-preserved : goal.loop-stated-preserved
loop-stated-preserved c =
    answers_next c.args.is_first c.args.part (limit_of c.args.states) c.args.all.now c.loop-stated.stated-index c.stated-item.result
    c.loop-stated.answers.items c.push.new.self.items c.in_ok-answer_to.field-0
    c.loop-stated-test.true c.stated-item.is c.in_ok-push.ensures.items c.in_ok-answer_to.ensures.answered c.loop-stated.invariant

pub returns-in_err-answer_to-clause-refused : goal.returns-in_err-answer_to-clause-refused
returns-in_err-answer_to-clause-refused c =
    handed_on c.from_residual.result _ _ c.from_residual.ensures.1
    (λ y p. rw p (empty_at c.args.is_first c.args.part (limit_of c.args.states) c.args.all.now c.loop-stated.stated-index c.stated-item.result
    c.loop-stated.answers.items c.in_err-answer_to.field-0.0 c.loop-stated-test.true c.stated-item.is c.loop-stated.invariant
    c.in_err-answer_to.ensures.refused))
