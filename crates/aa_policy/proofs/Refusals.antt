-- What a `?` returns.
use Rattle.std.proofs.Common.{◌≡◌, Bool, true, false, refl, sym, ◌∙◌, subst, ap, ◌⊎◌, inl, inr}
use Rattle.std.specs.Prelude.{Result, Err, ◌≢◌, IfErr}
use Rattle.aa_base.specs.declared.fault.PolicyFault.{PolicyFault}
use Rattle.aa_base.specs.declared.fault.PolicyKind.{PolicyKind}
use Rattle.aa_base.specs.declared.fault.PolicyKind.TheVariants.{NoMemory}
use Rattle.aa_base.specs.Kinds.{IsRefusal, no_memory}
use Rattle.aa_policy.specs.Preamble.{IsRefusedWith}
pub use Rattle.aa_rules.proofs.Refusals.{told_on, refusal}

pub true_false : true ≡ false → ⊥
true_false e = cc

pub refused_by : {T : Type 0} (r : Result T PolicyFault) (e f : PolicyFault) → r ≡ Err e → e ≡ f → IsRefusal r → f.kind ≢ NoMemory
refused_by {T} r e f eq same h =
    let P : Result T PolicyFault → Type 0 = λ x. IsRefusal x in
    subst (λ (x : PolicyFault). x.kind ≢ NoMemory) same (subst P eq h)

-- what else holds where memory is not the cause
pub unless_memory : (P : Type 0) (e : PolicyFault) → (e ≡ no_memory) ⊎ P → e.kind ≢ NoMemory → P
unless_memory P e (inl q) h = absurd (h (ap (λ (x : PolicyFault). x.kind) q))
unless_memory P e (inr p) h = p

-- what the refusal says that it hands on
pub handed_on : {T : Type 0} (r : Result T PolicyFault) (e f : PolicyFault) (P : PolicyFault → Type 0) → r ≡ Err e → e ≡ f → (f.kind ≢ NoMemory → P f)
    → IfErr r (λ x. x.kind ≢ NoMemory → P x)
handed_on {T} r e f P eq same h = subst (λ (x : Result T PolicyFault). IfErr x (λ y. y.kind ≢ NoMemory → P y)) (sym (eq ∙ ap (λ (x : PolicyFault). refusal {T = T} x) same)) h

-- memory is the cause, or it is not
is_memory : (kind : PolicyKind) → (kind ≡ NoMemory) ⊎ (kind ≢ NoMemory)
is_memory NoMemory = inl refl
is_memory kind = inr (λ e. cc)

pub memory_or : (fits : PolicyKind → Bool) (kind : PolicyKind) (e : PolicyFault) → e.kind ≡ kind → (kind ≡ NoMemory → e ≡ no_memory)
    → (kind ≢ NoMemory → fits kind ≡ true) → (e ≡ no_memory) ⊎ (fits e.kind ≡ true)
memory_or fits kind e same memory other = by (is_memory kind)
  where
    by : (kind ≡ NoMemory) ⊎ (kind ≢ NoMemory) → (e ≡ no_memory) ⊎ (fits e.kind ≡ true)
    by (inl h) = inl (memory h)
    by (inr h) = inr (ap fits same ∙ other h)

-- the refusal that a `?` hands on
pub refused_with : {T : Type 0} (r : Result T PolicyFault) (e f g : PolicyFault) → r ≡ Err e → e ≡ f → (f ≡ no_memory) ⊎ (f ≡ g) → IsRefusedWith g r
refused_with {T} r e f g eq same h =
    subst (λ (x : Result T PolicyFault). IsRefusedWith g x) (sym eq) (subst (λ (x : PolicyFault). (x ≡ no_memory) ⊎ (x ≡ g)) (sym same) h)

-- what holds where memory is not wanting, or memory is wanting
pub unless_wanting : (fits : PolicyKind → Bool) (P : Type 0) (e : PolicyFault) → fits NoMemory ≡ false → (e ≡ no_memory) ⊎ (fits e.kind ≡ true) → (e.kind ≢ NoMemory → P) → P ⊎ (e ≡ no_memory)
unless_wanting fits P e n (inl q) h = inr q
unless_wanting fits P e n (inr f) h = inl (h (λ k. true_false (sym f ∙ ap fits k ∙ n)))
