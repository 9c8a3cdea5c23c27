-- What the lines of logs give of a job.
-- Source: own.
use Rattle.std.specs.Prelude.{ℕ, ◌≡◌, ◌+◌, ◌-◌, ◌^◌, List, [], map, min, filter, fold, count_by, Bool, true, false, not, Option, Some, None, is_none, if◌then◌else◌}
use Rattle.std.specs.List.{filter_map}
use Rattle.aa_logs.specs.Outcomes.{RecordData, Outcome, Another, AsksNothing, AsksFor}
use Rattle.aa_logs.specs.declared.chosen.Choice.{Choice}
use Rattle.aa_logs.specs.Chosen.{is_chosen}
use Rattle.aa_logs.specs.Records.{line_in}
use Rattle.aa_logs.specs.Tasks.{TaskData, tasks_data, with_record, fits}
use Rattle.aa_notation.specs.declared.job.JobPolicy.{JobPolicy}
use Rattle.aa_notation.specs.Jobs.{policy_of}
use Rattle.aa_logs.specs.LogLines.{LogLine}
use Rattle.aa_messages.specs.Said.{said_in}
use Rattle.aa_job.specs.declared.job.JobTasks.{JobTasks}

-- what a line asks, if it asks something that can be decided
abbrev pub asked_in : Outcome → Option RecordData
asked_in (AsksFor r) = Some r
asked_in (AsksNothing cause) = None
asked_in Another = None

-- the line is one of those that are wanted
abbrev pub is_wanted : Choice → List ℕ → Bool
is_wanted choice line = is_chosen (map (λ n. n.items) choice.profiles.now) choice.since choice.until line

-- what a line asks, where it is chosen
abbrev pub asked_by : Choice → List ℕ → Option RecordData
asked_by choice line = if is_wanted choice line then asked_in (line_in line) else None

-- what the message of a line asks, where it is chosen, however often the line says it
abbrev pub asked_by_line : Choice → LogLine → Option RecordData
asked_by_line choice l = asked_by choice (said_in l.bytes).text

-- what the chosen ones of some lines ask, in their order
abbrev pub asked_by_lines : Choice → List LogLine → List RecordData
asked_by_lines choice lines = filter_map (asked_by_line choice) lines

-- no policy has the profile that asks
abbrev pub is_stranger : List JobPolicy → RecordData → Bool
is_stranger ps r = is_none (policy_of r.profile ps)

-- tasks, and whether a job can't have all that they ask
pub record Asking : Type 0 where
  pub tasks : List TaskData
  pub over : Bool

-- A record is asked where a job can have it.
abbrev pub with_asked : Asking → RecordData → Asking
with_asked a r = if fits r a.tasks then record { tasks = with_record r a.tasks; over = a.over } else record { tasks = a.tasks; over = true }

-- no tasks, before the first record
abbrev pub no_tasks : Asking
no_tasks = record { tasks = []; over = false }

-- the tasks of these records
abbrev pub asking : List RecordData → Asking
asking rs = fold with_asked no_tasks rs

-- of what is asked: the tasks that ask it, how many requests no profile of the policies asks, up to the greatest number of 64 bits,
-- and whether a job can't have all of the others
pub record Given : Type 0 where
  pub tasks : List TaskData
  pub strangers : ℕ
  pub over : Bool

-- the largest count
abbrev pub most_strangers : ℕ
most_strangers = 2 ^ 64 - 1

-- the tasks of those records whose profiles the policies have, and how many others there are
abbrev pub given_by : List JobPolicy → List RecordData → Given
given_by ps rs = record {
  tasks = (asking (filter (λ r. not (is_stranger ps r)) rs)).tasks;
  strangers = min (count_by (is_stranger ps) rs) most_strangers;
  over = (asking (filter (λ r. not (is_stranger ps r)) rs)).over;
}

-- the same of what the code keeps
abbrev pub given : JobTasks → Given
given t = record { tasks = tasks_data t.tasks.items; strangers = t.strangers; over = t.is_too_large }

-- This was made of these lines by its policies and its choice.
abbrev pub HasTaken : JobTasks → List LogLine → Type 0
HasTaken t lines = given t ≡ given_by t.policies.now (asked_by_lines t.choice lines)

-- Which log a line is of says nothing of a job.
abbrev pub any_log : JobTasks → ℕ
any_log t = 0

-- The tasks are for the same policies and the same choice.
abbrev pub HasSameSettings : JobTasks → JobTasks → Type 0
HasSameSettings first t = (t.policies ≡ first.policies) × (t.choice ≡ first.choice)

-- ---- one record more

-- one record more of a profile that no policy has
abbrev pub one_stranger : Given → Given
one_stranger g = record g { strangers = min (g.strangers + 1) most_strangers }

-- one record more, if a job has room for it
abbrev pub one_asked : RecordData → Given → Given
one_asked r g = if fits r g.tasks then record g { tasks = with_record r g.tasks } else record g { over = true }

-- one record more
abbrev pub one_more : List JobPolicy → RecordData → Given → Given
one_more ps r g = if is_stranger ps r then one_stranger g else one_asked r g

-- what a line gives, with its record or without
abbrev pub with_found : List JobPolicy → Option RecordData → Given → Given
with_found ps None g = g
with_found ps (Some r) g = one_more ps r g
