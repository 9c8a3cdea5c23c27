use Rattle.std.proofs.Common.{inl, inr, ap}
use Rattle.aa_base.specs.declared.fault.PolicyFault.{PolicyFault}
use Rattle.aa_policies.specs.Policies.{OfPolicy}
use Rattle.aa_policies.proofs.compiling.compile_text.Goals as goal

pub returns-in-Err-clause-cause : goal.returns-in-Err-clause-cause
returns-in-Err-clause-cause c other = c.in-Err.ensures.cause other c.args.limit

pub returns-in-Err-compile-clause-cause : goal.returns-in-Err-compile-clause-cause
returns-in-Err-compile-clause-cause c other =
    elim c.in-Err-compile.ensures.refused [
      | inl memory ↦ absurd (other (ap (λ (f : PolicyFault). f.kind) memory))
      | inr refused ↦ OfPolicy _ c.in-Ok.ensures.spelled refused
    ]
