-- The two parts of a made job: its texts, and what is done with them.
-- Source: own.
use Rattle.std.specs.Prelude.{ℕ, List, codes, map, Result, Ok}
use Rattle.serde_json.specs.Data.{Data}
use Rattle.serde_json.specs.Find.{get}
use Rattle.aa_jobs.specs.declared.job_fault.JobFault.{JobFault}
use Rattle.aa_words.specs.declared.include.Include.{Include}
use Rattle.aa_jobs.specs.declared.raw.RawTexts.{RawTexts}
use Rattle.aa_jobs.specs.declared.raw.RawRun.{RawRun}
use Rattle.aa_jobs.specs.Raw.{raw_task, raw_event}
use Rattle.aa_jobs.specs.declared.job_fault.JobFault.TheVariants.{BadShape}
use Rattle.aa_jobs.specs.declared.shape.Part.TheVariants.{Whole, OfTask}
use Rattle.aa_jobs.specs.Shape.{fits, has, includes_from, number_from, policies_from, text_at}
use Rattle.aa_jobs.specs.Steps.{◌>>=◌, only_if}
use Rattle.aa_jobs.specs.Made.{MadeItems, MadeTask, MadeEvent, MadeJob, made_events_from}

-- the texts of a job as it is written
pub record WrittenTexts : Type 0 where
  pub policies : List (List ℕ)
  pub includes : List Include

-- the rest of a made job
pub record MadeRun : Type 0 where
  pub tasks : List MadeTask
  pub states : ℕ
  pub capacity : ℕ
  pub events : List MadeEvent

-- the policies, and the texts that they may include
unfoldable pub texts_shape : Data → Result WrittenTexts JobFault
texts_shape d = do
  policies ← policies_from (get (codes "policy") d) (get (codes "policies") d)
  includes ← includes_from (get (codes "includes") d)
  Ok (record { policies = policies; includes = includes })

-- the rest of a job whose tasks are given
unfoldable pub run_with : Result (List MadeTask) JobFault → Data → Result MadeRun JobFault
run_with given d = do
  tasks ← given
  states ← number_from 4096 (get (codes "states") d)
  capacity ← number_from 1 (get (codes "capacity") d)
  events ← made_events_from (get (codes "events") d)
  Ok (record { tasks = tasks; states = states; capacity = capacity; events = events })

-- a job whose tasks are given
unfoldable pub job_with : Result (List MadeTask) JobFault → Data → Result MadeJob JobFault
job_with given d = do
  _ ← only_if (fits Whole d) BadShape
  t ← texts_shape d
  r ← run_with given d
  Ok (record { policies = t.policies; several = has (codes "policies") d; includes = t.includes; tasks = r.tasks; states = r.states; capacity = r.capacity; events = r.events })

-- a task whose items are given
unfoldable pub task_with : Result MadeItems JobFault → Data → Result MadeTask JobFault
task_with given d = do
  _ ← only_if (fits OfTask d) BadShape
  label ← text_at (codes "label") d
  policy ← number_from 0 (get (codes "policy") d)
  items ← given
  Ok (record { label = label; policy = policy; items = items })

-- the same of what lies in memory
abbrev pub raw_texts : RawTexts → WrittenTexts
raw_texts t = record { policies = t.policies.items; includes = t.includes.items }

-- the rest of a job, without where it lies in memory
abbrev pub raw_run : RawRun → MadeRun
raw_run r = record { tasks = map raw_task r.tasks.items; states = r.states; capacity = r.capacity; events = map raw_event r.events.items }
