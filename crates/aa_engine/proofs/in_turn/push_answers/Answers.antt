use Rattle.std.proofs.Common.{refl}
use Rattle.aa_engine.proofs.InTurn.{deciding_more, deciding_exit, deciding_end}
use Rattle.aa_engine.proofs.in_turn.push_answers.Goals as goal

pub loop-n-init : goal.loop-n-init
loop-n-init c = record { goes_on = refl }

pub returns-in_default : goal.returns-in_default
returns-in_default c =
    deciding_exit _ _ _ _ _ c.args.works.now c.loop-n.n _ c.loop-n-test.true (rw c.in_default.is at c.index-works-n.is) c.loop-n.invariant

pub loop-n-preserved : goal.loop-n-preserved
loop-n-preserved c =
    deciding_more _ _ _ _ _ _ _ _ c.in-Ask.request _ c.args.works.now c.loop-n.n _ c.loop-n-test.true (rw c.in-Ask.is at c.index-works-n.is)
    (rw c.new-mediator.ensures at c.step-answer.ensures.answer) (rw c.new-mediator.ensures at c.step-answer.ensures.state)
    (rw c.answered_of-answered.ensures at c.in_ok-push_verdict.ensures) (rw c.answered_of-answered.ensures at c.in_ok-push_audit.ensures) c.loop-n.invariant

pub returns : goal.returns
returns c = deciding_end _ _ _ _ _ c.args.works.now c.loop-n.n _ c.loop-n-test.false c.loop-n.invariant
