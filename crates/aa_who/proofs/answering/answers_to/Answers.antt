use Rattle.aa_load.specs.UnitPolicy.{limit_of}
use Rattle.aa_who.proofs.Turns.{answers_next, said_first, handed_on}
use Rattle.aa_who.proofs.answering.answers_to.Goals as goal

pub loop-word-preserved : goal.loop-word-preserved
loop-word-preserved c =
    answers_next c.args.decided (limit_of c.args.states) c.args.unclean c.args.words.now c.loop-word.word-index c.word-item.result c.as_slice.result.now
    c.loop-word.answers.items c.push.new.self.items c.in_ok-answer_to.field-0
    c.loop-word-test.true c.word-item.is c.as_slice.ensures.value c.in_ok-push.ensures.items c.in_ok-answer_to.ensures.answered c.loop-word.invariant

pub returns-in_err-answer_to-clause-refused : goal.returns-in_err-answer_to-clause-refused
returns-in_err-answer_to-clause-refused c =
    handed_on c.from_residual.result _ _ c.from_residual.ensures.1
    (λ y p. rw p (said_first c.args.decided (limit_of c.args.states) c.args.unclean c.args.words.now c.loop-word.word-index c.word-item.result c.as_slice.result.now
    c.loop-word.answers.items c.in_err-answer_to.field-0.0 c.loop-word-test.true c.word-item.is c.as_slice.ensures.value c.loop-word.invariant
    c.in_err-answer_to.ensures.refused))
