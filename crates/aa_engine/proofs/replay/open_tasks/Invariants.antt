use Rattle.std.proofs.Common.{drop}
use Rattle.aa_engine.proofs.Replaying.{Opening}
use Rattle.aa_engine.proofs.replay.open_tasks.Given as goal

abbrev pub invariant-loop-task : goal.invariant-loop-task
invariant-loop-task l = Opening l.policies l.capacity l.states.items (drop l.task-index l.tasks) l.tasks
