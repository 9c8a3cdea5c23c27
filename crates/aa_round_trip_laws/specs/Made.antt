-- What logs ask can be made.
-- Source: own.
use Rattle.std.specs.Prelude.{ℕ, List}
use Rattle.aa_round_trip_laws.specs.Jobs.{TasksCanBeMade}
use Rattle.aa_logs.specs.LogLines.{LogLine}
use Rattle.aa_job.specs.declared.job.JobTasks.{JobTasks}
use Rattle.aa_job.specs.Tasks.{HasTaken}

-- each request of the tasks that lines give can be made, in a job of any number of policies
abbrev pub LogsAskWhatCanBeMade : Type 0
LogsAskWhatCanBeMade = (policies : ℕ) (t : JobTasks) (lines : List LogLine) → HasTaken t lines → TasksCanBeMade policies t.tasks.items
