-- What a `?` hands on.
use Rattle.std.proofs.Common.{◌≡◌, ap, sym, subst, ◌∙◌}
use Rattle.std.specs.Prelude.{Result, Ok, Err, IfErr}
use Rattle.aa_base.specs.declared.fault.PolicyFault.{PolicyFault}

abbrev pub refusal : {T : Type 0} → PolicyFault → Result T PolicyFault
refusal e = Err e

-- what the refusal says that it hands on
pub told_on : {T : Type 0} (r : Result T PolicyFault) (e f : PolicyFault) (P : PolicyFault → Type 0) → r ≡ Err e → e ≡ f → P f → IfErr r P
told_on {T} r e f P eq same h = subst (λ (x : Result T PolicyFault). IfErr x P) (sym (eq ∙ ap (λ (x : PolicyFault). refusal {T = T} x) same)) h

-- what a refusal says by what else it says
pub err_weaker : {T E : Type 0} (r : Result T E) (P Q : E → Type 0) → IfErr r P → ((e : E) → P e → Q e) → IfErr r Q
err_weaker (Ok x) P Q p f = tt
err_weaker (Err e) P Q p f = f e p

pub err_both : {T E : Type 0} (r : Result T E) (P Q R : E → Type 0) → IfErr r P → IfErr r Q → ((e : E) → P e → Q e → R e) → IfErr r R
err_both (Ok x) P Q R p q f = tt
err_both (Err e) P Q R p q f = f e p q
