-- A job that is written is read as that job.
-- Source: own.
use Rattle.std.specs.Prelude.{◌≡◌, ◌≤◌, ◌==◌, ℕ, List, [], ◌∷◌, length, map, true, not, ⊤, unwrap_or, Ok}
use Rattle.std.specs.List.{filter}
use Rattle.std.specs.Ordering.{nat_cmp, match_ordering}
use Rattle.std.specs.Cmp.Lexicographic.{slice_cmp}
use Rattle.aa_model.specs.declared.request.Request.{Request}
use Rattle.aa_logs.specs.declared.task.LogTask.{LogTask}
use Rattle.aa_notation.specs.declared.job.Include.{Include}
use Rattle.aa_notation.specs.declared.job.JobPolicy.{JobPolicy}
use Rattle.aa_notation.specs.Kinds.{has_text}
use Rattle.aa_notation.specs.Jobs.{policy_of, job_text, is_job_text}
use Rattle.aa_words.specs.declared.include.Include as jobs
use Rattle.aa_jobs.specs.declared.job.Work.TheVariants.{Ask}
use Rattle.aa_jobs.specs.declared.job.Task.{Task}
use Rattle.aa_jobs.specs.declared.job.Job.{Job}
use Rattle.aa_jobs.specs.Jobs.{job_of}
use Rattle.aa_round_trip_laws.specs.Kinds.{CanBeMade}

-- each request of each task can be made, in a job of that many policies
abbrev pub AllCanBeMade : ℕ → List Request → Type 0
AllCanBeMade policies [] = ⊤
AllCanBeMade policies (r ∷ rs) = CanBeMade policies r × AllCanBeMade policies rs

-- each request of each task can be asked for, with so many policies
abbrev pub TasksCanBeMade : ℕ → List LogTask → Type 0
TasksCanBeMade policies [] = ⊤
TasksCanBeMade policies (t ∷ ts) = AllCanBeMade policies t.requests.items × TasksCanBeMade policies ts

-- a text by its name, in the order of the names' bytes: of two of one name the later
abbrev pub put_text : List ℕ → List ℕ → List jobs.Include → List jobs.Include
put_text name text [] = record { name = name; text = text } ∷ []
put_text name text (i ∷ is) =
    match_ordering (slice_cmp nat_cmp name i.name) (record { name = name; text = text } ∷ i ∷ is) (record { name = i.name; text = text } ∷ is) (i ∷ put_text name text is)

-- the includes as a reader finds them, in the order of their names
abbrev pub in_order : List Include → List jobs.Include → List jobs.Include
in_order [] found = found
in_order (i ∷ is) found = in_order is (put_text i.name.now i.text.now found)

-- a task as a job has it: it asks what is UTF-8, decided by the first policy that has its profile
abbrev pub task_in : List JobPolicy → LogTask → Task
task_in ps t = record { label = t.label.items; policy = unwrap_or (policy_of t.label.items ps) 0; requests = map Ask (filter has_text t.requests.items) }

-- the job of these parts
pub record IsJobOf (ps : List JobPolicy) (given : List Include) (asked : List LogTask) (most : ℕ) (j : Job) : Type 0 where
  pub policies : j.policies ≡ map (λ (p : JobPolicy). p.text.now) ps
  pub several : j.several ≡ not (length ps == 1)
  pub includes : j.includes ≡ in_order given []
  pub tasks : j.tasks ≡ map (task_in ps) asked
  pub states : j.states ≡ most
  pub capacity : j.capacity ≡ 1
  pub events : j.events ≡ []

-- what is written of a job's parts, where it is no larger than a job may be, is read as the job of these parts
abbrev pub JobsAreRead : Type 0
JobsAreRead = (ps : List JobPolicy) (includes : List Include) (tasks : List LogTask) (states : ℕ) (j : Job) → is_job_text ps includes tasks ≡ true
    → TasksCanBeMade (length ps) tasks → length (job_text ps includes tasks states) ≤ 16777216 → IsJobOf ps includes tasks states j
    → job_of (job_text ps includes tasks states) ≡ Ok j
