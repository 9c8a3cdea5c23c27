-- The job that bytes are.
-- Source: the kit's serde_json; own.
use Rattle.std.specs.Prelude.{ℕ, List, length, nat_le, if◌then◌else◌, Result, Err}
use Rattle.std.specs.Str.{is_utf8}
use Rattle.serde_json.specs.Data.{Data}
use Rattle.serde_json.specs.Read.{read}
use Rattle.aa_jobs.specs.declared.job_fault.JobFault.{JobFault}
use Rattle.aa_jobs.specs.declared.job_fault.JobFault.TheVariants.{NotJson, TooLarge}
use Rattle.aa_jobs.specs.declared.job.Job.{Job}
use Rattle.aa_jobs.specs.Steps.{◌>>=◌, needed, only_if}
use Rattle.aa_jobs.specs.Written.{WrittenJob}
use Rattle.aa_jobs.specs.Shape.{job_shape}
use Rattle.aa_jobs.specs.Limits.{within_limits}
use Rattle.aa_jobs.specs.Meaning.{written_sizes, meaning}

-- the JSON value of bytes that are UTF-8
abbrev pub json_of : List ℕ → Result Data JobFault
json_of bytes = if is_utf8 bytes then needed NotJson (read bytes) else Err NotJson

-- what stands in the job that the bytes are
abbrev pub written_in : List ℕ → Result WrittenJob JobFault
written_in bytes = json_of bytes >>= job_shape

-- the job that stands there, if nothing is over its limit
abbrev pub limited_meaning : WrittenJob → Result Job JobFault
limited_meaning written = do
  _ ← only_if (within_limits (written_sizes written)) TooLarge
  meaning written

-- the job, or the first fault: too many bytes, no JSON, another shape, over a limit, a request that can't be made
unfoldable pub job_of : List ℕ → Result Job JobFault
job_of bytes = do
  _ ← only_if (nat_le (length bytes) 16777216) TooLarge
  value ← json_of bytes
  written ← job_shape value
  _ ← only_if (within_limits (written_sizes written)) TooLarge
  meaning written
