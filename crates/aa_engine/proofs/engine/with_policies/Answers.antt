use Rattle.aa_engine.proofs.Inputs.{policy_explained}
use Rattle.aa_engine.proofs.engine.with_policies.Goals as goal

pub returns-in-Err-clause-cause : goal.returns-in-Err-clause-cause
returns-in-Err-clause-cause c = λ input read.
    rw c.policy_fault.ensures (policy_explained _ c.args.job c.in-Err.refused read
    (rw (c.as_slice.ensures, c.as_slice-2.ensures) at c.in-Err.ensures.cause))
