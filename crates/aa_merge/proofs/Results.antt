-- What holds of a result, from what its call promises.
use Rattle.std.specs.Prelude.{Result, IfErr}
use Rattle.std.proofs.lemmas.Result.{IfErr-weaker}
use Rattle.aa_merge.specs.declared.fault.PartFault.{PartFault}
use Rattle.aa_merge.specs.declared.fault.PartFault.TheVariants.{NoMemory, NotJson, NotAReport, Answered, Unlike, TooMany}
use Rattle.aa_merge.specs.Faults.{IsTooMany, IsUnlike}

pub too_many : (P Q : Type 0) → (P → Q) → (e : PartFault) → IsTooMany e P → IsTooMany e Q
too_many P Q f NoMemory h = tt
too_many P Q f NotJson h = absurd h
too_many P Q f (NotAReport m) h = absurd h
too_many P Q f Answered h = absurd h
too_many P Q f (Unlike m) h = absurd h
too_many P Q f TooMany h = f h

pub if_too_many : {A : Type 0} (r : Result A PartFault) (P Q : Type 0) → (P → Q) → IfErr r (λ e. IsTooMany e P) → IfErr r (λ e. IsTooMany e Q)
if_too_many r P Q f h = IfErr-weaker r (λ e. IsTooMany e P) (λ e. IsTooMany e Q) (too_many P Q f) h

pub unlike : (P Q : Type 0) → (P → Q) → (e : PartFault) → IsUnlike e P → IsUnlike e Q
unlike P Q f NoMemory h = tt
unlike P Q f NotJson h = absurd h
unlike P Q f (NotAReport m) h = absurd h
unlike P Q f Answered h = absurd h
unlike P Q f (Unlike m) h = f h
unlike P Q f TooMany h = absurd h

pub if_unlike : {A : Type 0} (r : Result A PartFault) (P Q : Type 0) → (P → Q) → IfErr r (λ e. IsUnlike e P) → IfErr r (λ e. IsUnlike e Q)
if_unlike r P Q f h = IfErr-weaker r (λ e. IsUnlike e P) (λ e. IsUnlike e Q) (unlike P Q f) h
