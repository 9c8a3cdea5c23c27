use Rattle.std.proofs.Common.{◌≡◌, take}
use Rattle.aa_notation.specs.Jobs.{left_out}
use Rattle.aa_notation.proofs.job.left_out.Given as goal

abbrev pub invariant-loop-task : goal.invariant-loop-task
invariant-loop-task l = l.count ≡ left_out (take l.task-index l.tasks)
