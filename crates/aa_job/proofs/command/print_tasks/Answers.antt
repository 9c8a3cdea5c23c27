use Rattle.std.proofs.Common.{map}
use Rattle.aa_job.proofs.Tasking.{tasks_written}
use Rattle.aa_job.proofs.command.print_tasks.Goals as goal

pub returns-in-Ok : goal.returns-in-Ok
returns-in-Ok c =
    tasks_written c.args.policies.now (map (λ s. s.now) c.args.sources.now) c.args.states c.args.tasks.now c.as_slice-listed.result.now c.new-text.result.items c.push_job.new.out.items c.in-Ok.left_out c.written.result
    c.requires c.as_slice-listed.ensures.value c.new-text.ensures.items c.in-Ok.ensures.written c.in-Ok.ensures.left_out c.written.ensures
