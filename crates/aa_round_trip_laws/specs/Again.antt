-- What is written of a job is read as that job.
use Rattle.std.specs.Prelude.{◌≡◌, ◌≤◌, ◌++◌, ℕ, List, codes, true, Result, Ok}
use Rattle.aa_model.specs.declared.request.Request.{Request}
use Rattle.aa_notation.specs.Kinds.{request_text, has_text}
use Rattle.aa_jobs.specs.declared.job_fault.JobFault.{JobFault}
use Rattle.aa_jobs.specs.declared.job.Work.{Work}
use Rattle.aa_jobs.specs.declared.job.Work.TheVariants.{Ask}
use Rattle.aa_jobs.specs.Steps.{◌>>=◌}
use Rattle.aa_jobs.specs.Shape.{item_shape}
use Rattle.aa_jobs.specs.Meaning.{work_of}
use Rattle.aa_jobs.specs.Jobs.{json_of}
use Rattle.aa_round_trip_laws.specs.Kinds.{CanBeMade}

-- what bytes mean as an item of a task, in a job of that many policies
abbrev pub work_in : ℕ → List ℕ → Result Work JobFault
work_in policies bytes = (json_of bytes >>= item_shape) >>= work_of policies

-- a request whose names are UTF-8, written on a line of its own, is read as it is
abbrev pub RequestsAreRead : Type 0
RequestsAreRead = (policies : ℕ) → policies ≤ 16 → (r : Request) → CanBeMade policies r → has_text r ≡ true → work_in policies (request_text r ++ codes "\n") ≡ Ok (Ask r)
