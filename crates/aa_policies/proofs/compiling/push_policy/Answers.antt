use Rattle.std.proofs.Common.{refl}
use Rattle.aa_policies.proofs.compiling.push_policy.Goals as goal

pub returns-in-Err-clause-cause : goal.returns-in-Err-clause-cause
returns-in-Err-clause-cause c = λ other. (refl, c.in-Err.ensures.cause other)
