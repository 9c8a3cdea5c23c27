use Rattle.aa_policy.proofs.Expanded.{fault_of_path}
use Rattle.aa_policy.proofs.Refusals.{memory_or}
use Rattle.aa_policy.specs.Faults.{is_path_fault}
use Rattle.aa_policy.proofs.expansion.patterns_of.Goals as goal

pub returns-in-Err-clause-cause : goal.returns-in-Err-clause-cause
returns-in-Err-clause-cause c =
    let r = c.refusal_at in
    memory_or is_path_fault c.in-Err.kind r.result r.ensures.kind r.ensures.memory (λ h. fault_of_path c.args.vars.now c.args.path.now c.in-Err.kind (c.in-Err.ensures.refused h))
