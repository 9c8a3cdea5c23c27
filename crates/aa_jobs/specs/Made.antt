-- A job as it is kept while it is read: each item of a task has become a request.
-- Source: own.
use Rattle.std.specs.Prelude.{ℕ, ◌&&◌, List, [], length, map, Bool, true, nat_lt, is_ok, Option, Some, None, Result, Ok, Err}
use Rattle.std.specs.List.{list_all}
use Rattle.serde_json.specs.Data.{Data}
use Rattle.aa_model.specs.declared.request.Request.{Request}
use Rattle.aa_model.specs.declared.request.Request.TheVariants as requests
use Rattle.aa_words.specs.declared.include.Include.{Include}
use Rattle.aa_jobs.specs.declared.job_fault.JobFault.{JobFault}
use Rattle.aa_jobs.specs.declared.job_fault.JobFault.TheVariants.{BadRequest, TooLarge}
use Rattle.aa_jobs.specs.declared.job.Event.{Event}
use Rattle.aa_jobs.specs.declared.job.EventName.{EventName}
use Rattle.aa_jobs.specs.declared.job.Work.{Work}
use Rattle.aa_jobs.specs.declared.job.Work.TheVariants.{Ask, Exit}
use Rattle.aa_jobs.specs.declared.job.Task.{Task}
use Rattle.aa_jobs.specs.declared.job.Job.{Job}
use Rattle.aa_jobs.specs.Limits.{Sizes, include_sizes, within_limits}
use Rattle.aa_jobs.specs.Meaning.{work_of, event_name, sealed}
use Rattle.aa_jobs.specs.Shape.{event_shape, item_shape, job_shape, list_in, task_shape}
use Rattle.aa_jobs.specs.Steps.{◌>>=◌, each, needed, only_if}
use Rattle.aa_jobs.specs.Written.{WrittenItem, WrittenTask, WrittenEvent, WrittenJob}

-- what the items of a task ask in a job of as many policies as there may be, and whether all of them can be asked for
pub record MadeItems : Type 0 where
  pub works : List Work
  pub are_good : Bool

-- a task whose items are made
pub record MadeTask : Type 0 where
  pub label : List ℕ
  pub policy : ℕ
  pub items : MadeItems

-- an event, with its name if there is one of that name
pub record MadeEvent : Type 0 where
  pub task : ℕ
  pub name : Option EventName

-- a job whose tasks and events are made
pub record MadeJob : Type 0 where
  pub policies : List (List ℕ)
  pub several : Bool
  pub includes : List Include
  pub tasks : List MadeTask
  pub states : ℕ
  pub capacity : ℕ
  pub events : List MadeEvent

-- a value that is made of the one that is given, or the fault
abbrev pub mapped : {A B : Type 0} → (A → B) → Result A JobFault → Result B JobFault
mapped f given = given >>= λ x. Ok (f x)

-- what an item asks; an exit stands in the place of what can't be asked for
abbrev pub or_exit : Result Work JobFault → Work
or_exit (Ok work) = work
or_exit (Err e) = Exit

-- the items of a task, made
abbrev pub made_items : List WrittenItem → MadeItems
made_items items = record { works = map (λ i. or_exit (work_of 16 i)) items; are_good = list_all (λ i. is_ok (work_of 16 i)) items }

-- a task, made
abbrev pub made_task : WrittenTask → MadeTask
made_task w = record { label = w.label; policy = w.policy; items = made_items w.items }

-- the value, if there is one
abbrev pub if_known : {A : Type 0} → Result A JobFault → Option A
if_known (Ok x) = Some x
if_known (Err e) = None

-- an event, made
abbrev pub made_event : WrittenEvent → MadeEvent
made_event w = record { task = w.task; name = if_known (event_name w.name) }

-- a job, made
abbrev pub made_job : WrittenJob → MadeJob
made_job w = record {
  policies = w.policies;
  several = w.several;
  includes = w.includes;
  tasks = map made_task w.tasks;
  states = w.states;
  capacity = w.capacity;
  events = map made_event w.events;
}

-- ---- shapes

-- the items of a value that has to be a list, made
abbrev pub made_items_shape : Data → Result MadeItems JobFault
made_items_shape d = mapped made_items (list_in d >>= each item_shape)

-- a task as it is written, made
abbrev pub made_task_shape : Data → Result MadeTask JobFault
made_task_shape d = mapped made_task (task_shape d)

-- the tasks of a value that has to be a list, made
abbrev pub made_tasks_shape : Data → Result (List MadeTask) JobFault
made_tasks_shape d = list_in d >>= each made_task_shape

-- an event as it is written, made
abbrev pub made_event_shape : Data → Result MadeEvent JobFault
made_event_shape d = mapped made_event (event_shape d)

-- the events, made, or none where the key is missing
abbrev pub made_events_from : Option Data → Result (List MadeEvent) JobFault
made_events_from None = Ok []
made_events_from (Some d) = list_in d >>= each made_event_shape

-- a job as it is written, made
abbrev pub made_job_shape : Data → Result MadeJob JobFault
made_job_shape d = mapped made_job (job_shape d)

-- ---- meaning

-- the policy that a request names is one of that many
abbrev pub names_one : ℕ → Request → Bool
names_one policies (requests.File f) = true
names_one policies (requests.Link l) = true
names_one policies (requests.Exec e) = true
names_one policies (requests.Cap c) = true
names_one policies (requests.Net f k) = true
names_one policies (requests.Change n) = true
names_one policies (requests.Reload p) = nat_lt p policies

-- the policy that a work names, if it names one, is one of that many
abbrev pub is_there : ℕ → Work → Bool
is_there policies (Ask r) = names_one policies r
is_there policies Exit = true

-- what made items ask in a job of that many policies
abbrev pub works_in : ℕ → MadeItems → Result (List Work) JobFault
works_in policies items = only_if (items.are_good && list_all (is_there policies) items.works) BadRequest >>= λ _. Ok items.works

-- a made task, in a job of that many policies
unfoldable pub task_in : ℕ → MadeTask → Result Task JobFault
task_in policies t = do
  _ ← only_if (nat_lt t.policy policies) BadRequest
  requests ← works_in policies t.items
  Ok (record { label = t.label; policy = t.policy; requests = requests })

-- a made event, of one of that many tasks
unfoldable pub event_in : ℕ → MadeEvent → Result Event JobFault
event_in tasks e = do
  name ← needed BadRequest e.name
  _ ← only_if (nat_lt e.task tasks) BadRequest
  Ok (record { task = e.task; name = name })

-- the job that a made one means, or the first fault of its tasks and events
unfoldable pub meaning_in : MadeJob → Result Job JobFault
meaning_in j = do
  tasks ← each (task_in (length j.policies)) j.tasks
  events ← each (event_in (length j.tasks)) j.events
  sealed j.policies j.several j.includes tasks j.states j.capacity events

-- the sizes of a made job
abbrev pub made_sizes : MadeJob → Sizes
made_sizes j = record {
  policies = map length j.policies;
  includes = include_sizes j.includes;
  tasks = map (λ t. length t.items.works) j.tasks;
  states = j.states;
  capacity = j.capacity;
  events = length j.events;
}

-- the job that a made one means, if nothing is over its limit
abbrev pub limited_in : MadeJob → Result Job JobFault
limited_in j = only_if (within_limits (made_sizes j)) TooLarge >>= λ _. meaning_in j
