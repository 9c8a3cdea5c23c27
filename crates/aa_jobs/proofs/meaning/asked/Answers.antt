use Rattle.std.proofs.Common.{◌≡◌, Result, Ok, sym, ap, subst, ◌∙◌}
use Rattle.aa_model.specs.declared.request.Request.{Request}
use Rattle.aa_jobs.specs.declared.job_fault.JobFault.{JobFault}
use Rattle.aa_jobs.specs.Meaning.{asked}
use Rattle.aa_jobs.specs.Steps.{Gives, Refuses}
use Rattle.aa_jobs.proofs.Rows.{passes_on}
use Rattle.aa_jobs.proofs.meaning.asked.Goals as goal

pub returns-in-Ok : goal.returns-in-Ok
returns-in-Ok c = λ given gives.
    let is : given ≡ Ok c.in-Ok.request = subst (λ (r : Result Request JobFault). Gives (λ x. x) r given) c.in-Ok.is gives in
    ap asked is ∙ ap Ok (sym c.kept.ensures)

pub returns-in-Err : goal.returns-in-Err
returns-in-Err c = λ given gives.
    let is : Refuses c.in-Err.fault given = subst (λ (r : Result Request JobFault). Gives (λ x. x) r given) c.in-Err.is gives in
    passes_on c.in-Err.fault given (asked given) (λ d k. ap asked k) is
