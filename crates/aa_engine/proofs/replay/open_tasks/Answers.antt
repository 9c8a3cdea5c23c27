use Rattle.std.proofs.Common.{◌∙◌, sym}
use Rattle.aa_engine.proofs.Answering.{none_unknown}
use Rattle.aa_engine.proofs.Replaying.{opening_more, opening_end}
use Rattle.aa_engine.proofs.replay.open_tasks.Goals as goal

pub unreachable-requires : goal.unreachable-requires
unreachable-requires c =
    none_unknown _ c.args.tasks.now c.loop-task.task-index c.task-item.result (sym c.requires.known) c.loop-task-test.true c.task-item.is
    (sym c.in_default.is ∙ c.opening_label.ensures)

pub loop-task-preserved : goal.loop-task-preserved
loop-task-preserved c =
    opening_more _ _ _ _ c.args.tasks.now c.loop-task.task-index c.task-item.result c.in-Some.label c.in-Ok.world c.loop-task-test.true c.task-item.is
    (sym c.opening_label.ensures ∙ c.in-Some.is) (rw c.requires.same at (c.in-Ok.ensures.ok).0) (rw c.as_slice.ensures at c.in_ok-push.ensures.items)
    c.loop-task.invariant

pub returns : goal.returns
returns c = opening_end _ _ _ c.args.tasks.now c.loop-task.task-index c.loop-task-test.false c.loop-task.invariant
