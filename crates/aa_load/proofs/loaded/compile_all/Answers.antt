use Rattle.std.proofs.Common.{inl, inr, ap}
use Rattle.aa_base.specs.declared.fault.PolicyFault.{PolicyFault}
use Rattle.aa_load.proofs.loaded.compile_all.Goals as goal

pub returns-in-Err-clause-cause : goal.returns-in-Err-clause-cause
returns-in-Err-clause-cause c other =
    elim c.in-Err.ensures.refused [
      | inl memory ↦ absurd (other (c.blamed.ensures.memory (ap (λ (f : PolicyFault). f.kind) memory)))
      | inr refused ↦ (c.in-Err.refusal.fault, refused, c.blamed.ensures.other other)
    ]
