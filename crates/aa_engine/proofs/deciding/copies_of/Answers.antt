use Rattle.std.proofs.lemmas.List.{map-append}
use Rattle.aa_engine.specs.Answers.{asked}
use Rattle.aa_engine.proofs.Answering.{mapped_more}
use Rattle.aa_engine.proofs.deciding.copies_of.Goals as goal

pub loop-task-preserved : goal.loop-task-preserved
loop-task-preserved c =
    rw (c.in_ok-push.ensures.items, map-append)
    (mapped_more (λ t. asked t.requests) _ c.args.tasks.now c.loop-task.task-index c.task-item.result _ c.loop-task-test.true c.task-item.is
    (rw c.as_slice.ensures at c.in_ok-requests_of.ensures) c.loop-task.invariant)
