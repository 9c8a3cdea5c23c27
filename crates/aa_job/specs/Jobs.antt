-- The job of policies, of what they include, and of tasks.
-- Source: own.
use Rattle.std.specs.Prelude.{ℕ, ◌≡◌, ◌++◌, List, map, true, false}
use Rattle.aa_logs.specs.declared.task.LogTask.{LogTask}
use Rattle.aa_notation.specs.declared.job.Include.{Include}
use Rattle.aa_notation.specs.declared.job.JobPolicy.{JobPolicy}
use Rattle.aa_notation.specs.Jobs.{job_text, is_job_text}
use Rattle.aa_files.specs.declared.unit.Source.{Source}
use Rattle.aa_files.specs.Numbers.{named_text}

-- an include's name and text
abbrev pub named_include : Include → List ℕ × List ℕ
named_include i = (i.name.now, i.text.now)

-- these are the names and the texts of the sources, in their order
abbrev pub AreIncludes : List Source → List Include → Type 0
AreIncludes sources includes = map named_include includes ≡ map named_text sources

-- Behind what was there stands the text of the job of these policies, of these sources by name, and of these tasks; all its texts are
-- UTF-8, so that it is read as that job.
pub record IsJobWritten (ps : List JobPolicy) (sources : List Source) (tasks : List LogTask) (states : ℕ) (old new : List ℕ) : Type 0 where
  pub includes : List Include
  pub are : AreIncludes sources includes
  pub is_text : is_job_text ps includes tasks ≡ true
  pub written : new ≡ old ++ job_text ps includes tasks states

-- a text of the job is no UTF-8
pub record IsNoText (ps : List JobPolicy) (sources : List Source) (tasks : List LogTask) : Type 0 where
  pub includes : List Include
  pub are : AreIncludes sources includes
  pub is_none : is_job_text ps includes tasks ≡ false
