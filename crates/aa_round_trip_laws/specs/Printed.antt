-- What is written of files and logs is read as the job of what they are.
-- Source: own.
use Rattle.std.specs.Prelude.{◌≡◌, ◌≤◌, ◌+◌, ◌==◌, ℕ, List, [], length, map, drop, not, Option, Some, slice_get, Ok}
use Rattle.aa_logs.specs.declared.task.LogTask.{LogTask}
use Rattle.aa_notation.specs.declared.job.JobPolicy.{JobPolicy}
use Rattle.aa_words.specs.declared.include.Include as jobs
use Rattle.aa_jobs.specs.declared.job.Job.{Job}
use Rattle.aa_jobs.specs.Jobs.{job_of}
use Rattle.aa_round_trip_laws.specs.Jobs.{TasksCanBeMade, task_in}
use Rattle.aa_files.specs.declared.unit.Source.{Source}
use Rattle.aa_files.specs.declared.unit.Unit as unit
use Rattle.aa_files.specs.Files.{Files}
use Rattle.aa_files.specs.WalkData.{IsUnit}
use Rattle.aa_logs.specs.LogLines.{LogLine}
use Rattle.aa_job.specs.declared.job.JobTasks.{JobTasks}
use Rattle.aa_job.specs.Shared.{AreShared}
use Rattle.aa_job.specs.Tasks.{HasTaken}
use Rattle.aa_job.specs.Jobs.{IsJobWritten}

-- a unit is what a walk over the includes of a main text finds
pub record IsLoaded (u : unit.Unit) : Type 0 where
  pub files : Option Files
  pub folders : List (List ℕ)
  pub path : List ℕ
  pub main : List ℕ
  pub is : IsUnit files folders path main u

-- each unit was loaded
abbrev pub AreLoaded : List unit.Unit → Type 0
AreLoaded units = (k : ℕ) (u : unit.Unit) → slice_get units k ≡ Some u → IsLoaded u

-- the include that a source is in a job
abbrev pub include_of : Source → jobs.Include
include_of s = record { name = s.name.items; text = s.text.items }

-- the job of policies, of the sources that they include, and of tasks
pub record IsJobOfParts (ps : List JobPolicy) (sources : List Source) (asked : List LogTask) (most : ℕ) (j : Job) : Type 0 where
  pub policies : j.policies ≡ map (λ (p : JobPolicy). p.text.now) ps
  pub several : j.several ≡ not (length ps == 1)
  pub includes : j.includes ≡ map include_of sources
  pub tasks : j.tasks ≡ map (task_in ps) asked
  pub states : j.states ≡ most
  pub capacity : j.capacity ≡ 1
  pub events : j.events ≡ []

-- what is written behind some bytes, of the sources that units share, of policies and of tasks that ask what can be made, where it is no larger than a job may
-- be, is read as the job of these parts
abbrev pub PrintedJobsAreRead : Type 0
PrintedJobsAreRead = (units : List unit.Unit) (ps : List JobPolicy) (sources : List Source) (tasks : List LogTask) (states : ℕ) (old new : List ℕ) (j : Job)
    → AreLoaded units → AreShared units sources → IsJobWritten ps sources tasks states old new
    → TasksCanBeMade (length ps) tasks → length new ≤ length old + 16777216 → IsJobOfParts ps sources tasks states j
    → job_of (drop (length old) new) ≡ Ok j

-- the same of the tasks that lines of logs give: what they ask can be made
abbrev pub LogJobsAreRead : Type 0
LogJobsAreRead = (units : List unit.Unit) (ps : List JobPolicy) (sources : List Source) (t : JobTasks) (lines : List LogLine) (states : ℕ) (old new : List ℕ) (j : Job)
    → AreLoaded units → AreShared units sources → HasTaken t lines → IsJobWritten ps sources t.tasks.items states old new
    → length new ≤ length old + 16777216 → IsJobOfParts ps sources t.tasks.items states j
    → job_of (drop (length old) new) ≡ Ok j
