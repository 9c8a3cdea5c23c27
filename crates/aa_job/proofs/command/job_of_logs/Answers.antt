use Rattle.std.proofs.Common.{map}
use Rattle.std.proofs.lemmas.Result.{IfOk-weaker}
use Rattle.aa_command.specs.declared.output.Output.{Output}
use Rattle.aa_command.specs.Printed.{printed}
use Rattle.aa_command.specs.Refusals.{SaysUnread}
use Rattle.aa_job.specs.Command.{IsTasksOutput, IsLogsOutput, UnreadLog, Tasks}
use Rattle.aa_files.specs.Texts.{slices}
use Rattle.aa_job.proofs.Tasking.{tasks_for, unread_for}
use Rattle.aa_job.proofs.command.job_of_logs.Goals as goal

pub returns-in-Ok : goal.returns-in-Ok
returns-in-Ok g c =
    let sources = map (λ s. s.now) c.args.sources.now in
    let t = c.read_tasks.new.tasks in
    IfOk-weaker c.print_job.result (λ (out : Output). IsTasksOutput c.args.policies.now sources c.args.states t (printed out))
    (λ (out : Output). IsLogsOutput (g.R.Logs.lying c.args.reader.now) c.args.options.now c.args.states c.args.policies.now sources (printed out))
    (λ out p. Tasks t
    (tasks_for (g.R.Logs.lying c.args.reader.now) c.new-tasks.result.policies.now c.args.policies.now c.new-tasks.result.choice c.args.options.now.choice
    (slices c.args.options.now.logs.now) t c.new-tasks.ensures.policies c.new-tasks.ensures.choice c.in-Ok.ensures.taken) p) c.print_job.ensures

pub returns : goal.returns
returns g c =
    let sources = map (λ s. s.now) c.args.sources.now in
    let unread = c.in-Err.unread in
    IfOk-weaker c.path_refused.result (λ (out : Output). SaysUnread unread.path.now unread.why (printed out))
    (λ (out : Output). IsLogsOutput (g.R.Logs.lying c.args.reader.now) c.args.options.now c.args.states c.args.policies.now sources (printed out))
    (λ out says. UnreadLog unread.path.now unread.why
    (unread_for (g.R.Logs.lying c.args.reader.now) c.new-tasks.result.policies.now c.args.policies.now c.new-tasks.result.choice c.args.options.now.choice
    (slices c.args.options.now.logs.now) unread.path.now c.new-tasks.ensures.policies c.new-tasks.ensures.choice c.in-Err.ensures.unread) says) c.path_refused.ensures.says
