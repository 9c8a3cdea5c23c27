use Rattle.std.proofs.Common.{◌++◌, ap}
use Rattle.aa_engine.specs.Answers.{asked}
use Rattle.aa_engine.proofs.Answering.{asking_more, asking_exit, asking_end}
use Rattle.aa_engine.proofs.lending.lent_requests.Goals as goal

pub loop-work-init : goal.loop-work-init
loop-work-init c = record { goes_on = ap (λ f. f ++ asked c.args.works.now) c.in_ok-requests.ensures.items }

pub returns-in_default : goal.returns-in_default
returns-in_default c =
    let item = rw c.in_default.is at c.work-item.is in
    asking_exit _ c.args.works.now c.loop-work.work-index _ c.loop-work-test.true item c.loop-work.invariant

pub loop-work-preserved : goal.loop-work-preserved
loop-work-preserved c =
    let item = rw c.in-Ask.is at c.work-item.is in
    asking_more _ _ c.args.works.now c.loop-work.work-index c.in-Ask.request _ _ c.loop-work-test.true item c.new.ensures
    c.in_ok-push_back.ensures.items c.loop-work.invariant

pub returns : goal.returns
returns c = asking_end _ c.args.works.now c.loop-work.work-index _ c.loop-work-test.false c.loop-work.invariant
