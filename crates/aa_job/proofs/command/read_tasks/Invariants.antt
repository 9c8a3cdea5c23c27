use Rattle.std.proofs.Common.{take}
use Rattle.aa_files.specs.Texts.{slices}
use Rattle.aa_job.specs.Command.{AreTasksOf}
use Rattle.aa_job.proofs.command.read_tasks.Given as goal

abbrev pub invariant-loop-path : goal.invariant-loop-path
invariant-loop-path g l = AreTasksOf (g.R.Logs.lying l.reader) l.fn.tasks.policies.now l.fn.tasks.choice (slices (take l.path-index l.logs)) l.tasks
