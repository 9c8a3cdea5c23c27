use Rattle.aa_logs.specs.LogLines.{log_line}
use Rattle.aa_job.proofs.Taking.{takes_more}
use Rattle.aa_job.proofs.job.JobTasksLines.take_line.Goals as goal

pub returns-clause-taken : goal.returns-clause-taken
returns-clause-taken c = λ before taken. takes_more c.args.self.now c.add_said.new.self before (log_line 0 c.args._number c.args.line.now) c.in_ok-add_said.ensures.stays.0 c.in_ok-add_said.ensures.stays.1 c.in_ok-add_said.ensures.ok taken
