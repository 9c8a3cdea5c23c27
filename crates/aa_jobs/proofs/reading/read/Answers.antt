use Rattle.std.proofs.Common.{Result, ap, arith, length, nat_le, true, false, ◌≡◌, subst, sym, ◌∙◌}
use Rattle.std.proofs.lemmas.Bool.Decides.{nat_tests}
use Rattle.std.proofs.lemmas.Result.{err_from_is_err_and}
use Rattle.aa_jobs.specs.declared.job.Job.{Job}
use Rattle.aa_jobs.specs.declared.job_fault.JobFault.{JobFault}
use Rattle.aa_jobs.specs.Jobs.{job_of, limited_meaning, written_in}
use Rattle.aa_jobs.specs.Made.{limited_in, made_job, mapped}
use Rattle.aa_jobs.specs.Raw.{raw_job}
use Rattle.aa_jobs.specs.Steps.{◌>>=◌, Gives}
use Rattle.aa_jobs.specs.Written.{WrittenJob}
use Rattle.aa_jobs.proofs.Made.{limited_made, mapped_err, mapped_ok}
use Rattle.aa_jobs.proofs.Parts.{job_large, job_small}
use Rattle.aa_jobs.proofs.Rows.{passes_on}
use Rattle.aa_jobs.proofs.reading.read.Goals as goal

pub returns-then-bytes-gt-MAX_BYTES : goal.returns-then-bytes-gt-MAX_BYTES
returns-then-bytes-gt-MAX_BYTES c =
    let large : nat_le (length c.args.bytes.now) 16777216 ≡ false = grind (arith, nat_tests) in
    job_large c.args.bytes.now large

pub returns-in_err-raw : goal.returns-in_err-raw
returns-in_err-raw c =
    let bytes = c.args.bytes.now in
    let small : nat_le (length bytes) 16777216 ≡ true = grind (arith, nat_tests) in
    let p = err_from_is_err_and c.from_residual.result c.from_residual.ensures.1 in
    rw (p.1, p.2) (passes_on c.in_err-raw.field-0.0 (mapped made_job (written_in bytes)) (job_of bytes)
    (λ d k. job_small bytes small ∙ ap (λ (w : Result WrittenJob JobFault). w >>= limited_meaning) (mapped_err made_job (written_in bytes) d k))
    c.in_err-raw.ensures)

pub returns : goal.returns
returns c =
    let bytes = c.args.bytes.now in
    let small : nat_le (length bytes) 16777216 ≡ true = grind (arith, nat_tests) in
    let w = mapped_ok made_job (written_in bytes) (raw_job c.in_ok-raw.raw) c.in_ok-raw.ensures in
    let is = job_small bytes small ∙ ap (λ (w : Result WrittenJob JobFault). w >>= limited_meaning) w.1 ∙ sym (limited_made w.0) ∙ ap limited_in w.2 in
    subst (λ (g : Result Job JobFault). Gives (λ j. j) c.limited_job.result g) (sym is) c.limited_job.ensures
