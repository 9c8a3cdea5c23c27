use Rattle.std.proofs.Common.{◌≡◌, map}
use Rattle.aa_jobs.specs.Steps.{each}
use Rattle.aa_jobs.specs.Made.{task_in}
use Rattle.aa_jobs.specs.Raw.{raw_task}
use Rattle.aa_jobs.proofs.Rows.{with_front}
use Rattle.aa_jobs.proofs.meaning.tasks.Given as goal

abbrev pub invariant-loop-raw : goal.invariant-loop-raw
invariant-loop-raw l = with_front l.tasks.items (each (task_in l.policies) (map raw_task l.raw-iterator.rest.items))
    ≡ each (task_in l.policies) (map raw_task l.fn.list.items)
