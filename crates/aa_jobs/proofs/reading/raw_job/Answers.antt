use Rattle.std.proofs.Common.{Result, sym, ap, subst, ◌∙◌}
use Rattle.aa_jobs.specs.declared.job_fault.JobFault.{JobFault}
use Rattle.aa_jobs.specs.Made.{MadeJob, made_job, mapped}
use Rattle.aa_jobs.specs.Raw.{raw_job}
use Rattle.aa_jobs.specs.Shape.{job_shape}
use Rattle.aa_jobs.specs.Steps.{◌>>=◌, Gives}
use Rattle.aa_jobs.specs.Stream.{written_as}
use Rattle.aa_jobs.proofs.Json.{json_of_text, json_of_no_text}
use Rattle.aa_jobs.proofs.reading.raw_job.Goals as goal

pub returns-in-Ok : goal.returns-in-Ok
returns-in-Ok c =
    let is_text = c.in-Ok.ensures.cases in
    subst (λ (given : Result MadeJob JobFault). Gives raw_job c.raw_in.result given) (ap (λ t. mapped made_job (written_as t)) is_text.0
    ∙ ap (λ d. mapped made_job (d >>= job_shape)) (sym (json_of_text c.args.bytes.now is_text.1))) c.raw_in.ensures

pub returns-in-Err : goal.returns-in-Err
returns-in-Err c = ap (λ d. mapped made_job (d >>= job_shape)) (json_of_no_text c.args.bytes.now c.in-Err.ensures.cases.0)
