use Rattle.std.proofs.Common.{◌≡◌, ◌++◌, length, false}
use Rattle.aa_notation.specs.Jobs.{tasks_text}
use Rattle.aa_notation.proofs.job.push_tasks.Given as goal

abbrev pub invariant-loop-rest : goal.invariant-loop-rest
invariant-loop-rest l = l.out.items ++ tasks_text l.policies l.is_later l.rest ≡ l.initial.out.items ++ tasks_text l.policies false l.tasks

abbrev pub decreases-loop-rest : goal.decreases-loop-rest
decreases-loop-rest l = length l.rest
