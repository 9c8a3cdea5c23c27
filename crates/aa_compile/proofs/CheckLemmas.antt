-- The checks, one profile after the other.
use Rattle.std.proofs.Common.{◌≡◌, ◌≤◌, ◌<◌, ◌+◌, ◌⊎◌, ℕ, List, [], ◌∷◌, ◌++◌, length, Some, Err, Result, suc, zero, refl, sym, ap, ◌∙◌, subst, inl, inr, ⊎_elim, arith}
use Rattle.std.specs.List.{slice_get}
use Rattle.std.proofs.lemmas.Bool.{cases_lt}
use Rattle.std.proofs.lemmas.List.{length_push}
use Rattle.std.proofs.lemmas.Option.{same_Some}
use Rattle.aa_base.specs.declared.fault.PolicyFault.{PolicyFault}
use Rattle.aa_base.specs.Kinds.{no_memory}
use Rattle.aa_model.specs.declared.policy.Profile.{Profile}
use Rattle.aa_auto.specs.Tables.{HasPlaces}
use Rattle.aa_auto.specs.declared.build.BuildFault.{BuildFault}
use Rattle.aa_auto.specs.declared.build.BuildFault.TheVariants.{NoMemory, TooManyStates}
use Rattle.aa_compile.specs.declared.rows.RowsFault.{RowsFault}
use Rattle.aa_compile.specs.declared.rows.RowsFault.TheVariants.{NoMemory as NoRowMemory, TooManyStates as TooManyRows, Conflict}
use Rattle.aa_compile.specs.FileRules.{Conflicts}
use Rattle.aa_compile.specs.Patterns.{HasAutomaton}
use Rattle.aa_compile.specs.Rows.{patterns_of}
use Rattle.aa_compile.specs.declared.tables.ProfileRows.{ProfileRows}
use Rattle.aa_compile.specs.Checks.{rows_fault, states_fault, attached_patterns, children, Passes, PassBefore, Fails, ManyFiles, Conflicting, ManyChildren, IsRight, AreRight}

module _ (profiles : List Profile) (limit number : ℕ) (p : Profile) where
  pub files_fail : {T : Type 0} (r : Result T RowsFault) (fault : RowsFault) (f : PolicyFault) → f ≡ rows_fault fault p.at → r ≡ Err fault
      → (r ≡ Err Conflict → Conflicts p.files) → (r ≡ Err Conflict → HasAutomaton (patterns_of p.files) limit)
      → (r ≡ Err TooManyRows → HasPlaces (patterns_of p.files) (limit + 1)) → (f ≡ no_memory) ⊎ Fails profiles limit number p f
  files_fail r NoRowMemory f e is conflict fits many = inl e
  files_fail r TooManyRows f e is conflict fits many = inr (ManyFiles e (many is))
  files_fail r Conflict f e is conflict fits many = inr (Conflicting e (fits is) (conflict is))

  pub children_fail : {T : Type 0} (r : Result T BuildFault) (fault : BuildFault) (f : PolicyFault) → f ≡ states_fault fault p.at → r ≡ Err fault
      → HasAutomaton (patterns_of p.files) limit → (Conflicts p.files → ⊥)
      → (r ≡ Err TooManyStates → HasPlaces (attached_patterns profiles (children profiles number)) (limit + 1))
      → (f ≡ no_memory) ⊎ Fails profiles limit number p f
  children_fail r NoMemory f e is fits free many = inl e
  children_fail r TooManyStates f e is fits free many = inr (ManyChildren e fits free (many is))

snoc_cases : {X : Type 0} (xs : List X) (y x : X) (k : ℕ) → slice_get (xs ++ y ∷ []) k ≡ Some x → (slice_get xs k ≡ Some x) ⊎ ((k ≡ length xs) × (y ≡ x))
snoc_cases [] y x zero e = inr (refl, same_Some y x e)
snoc_cases [] y x (suc k) e = absurd (let f = e in cc)
snoc_cases (z ∷ xs) y x zero e = inl e
snoc_cases (z ∷ xs) y x (suc k) e =
    ⊎_elim
    (λ (h : slice_get xs k ≡ Some x). inl h)
    (λ (h : (k ≡ length xs) × (y ≡ x)). inr (ap suc h.0, h.1))
    (snoc_cases xs y x k e)

pub right_more : (profiles : List Profile) (i : ℕ) (rows new : List ProfileRows) (p : Profile) (r : ProfileRows) → AreRight profiles i rows
    → slice_get profiles i ≡ Some p → IsRight profiles i p r → new ≡ rows ++ r ∷ [] → AreRight profiles (i + 1) new
right_more profiles i rows new p r are at is e = record {
  many = ap length e ∙ length_push rows r ∙ ap (λ n. n + 1) are.many;
  each = λ k q s here found.
      ⊎_elim
      (λ (h : slice_get rows k ≡ Some s). are.each k q s here h)
      (λ (h : (k ≡ length rows) × (r ≡ s)).
      let same : i ≡ k = sym are.many ∙ sym h.0 in
      let who : p ≡ q = same_Some p q (sym at ∙ ap (slice_get profiles) same ∙ here) in
      subst (λ n. IsRight profiles n q s) same (subst (λ x. IsRight profiles i q x) h.1 (subst (λ x. IsRight profiles i x r) who is)))
      (snoc_cases rows r s k (sym (ap (λ l. slice_get l k) e) ∙ found));
}

pub passed_more : (profiles : List Profile) (limit i : ℕ) (p : Profile) → PassBefore profiles limit i → slice_get profiles i ≡ Some p → Passes profiles limit i p → PassBefore profiles limit (i + 1)
passed_more profiles limit i p before at pass k q lt here =
    ⊎_elim
    (λ (l : k < i). before k q l here)
    (λ (g : i ≤ k). let same : i ≡ k = omega arith in
    let who : p ≡ q = same_Some p q (sym at ∙ ap (slice_get profiles) same ∙ here) in
    subst (λ n. Passes profiles limit n q) same (subst (λ x. Passes profiles limit i x) who pass))
    (cases_lt k i)
