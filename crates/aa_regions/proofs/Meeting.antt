-- One class more is met.
use Rattle.std.proofs.Common.{◌≡◌, ℕ, ◌<◌, List, [], ◌∷◌, ◌++◌, Bool, true, false, length, get_or, set, refl, sym, ap, ◌∙◌, subst, arith, ⊎_elim}
use Rattle.std.proofs.lemmas.Bool.{cases_eq}
use Rattle.std.proofs.lemmas.List.{length-set, length_push, get_or-set_same, get_or-set_other, get_or_append_left, get_or_push}
use Rattle.std.proofs.lemmas.List.Elements.{All-push}
use Rattle.aa_auto.specs.Tables.{Table}
use Rattle.aa_regions.specs.Wanted.{IsFrom}
use Rattle.aa_regions.specs.Bytes.{StayMarked, AreMet, HasClass}

-- what was marked stays so, where one more is
pub stay_set : (marked : List Bool) (n : ℕ) → n < length marked → StayMarked marked (set marked n true)
stay_set marked n lt k e =
    ⊎_elim
    (λ (q : k ≡ n). subst (λ i. get_or (set marked n true) i false ≡ true) (sym q) (get_or-set_same marked n true false lt))
    (λ (ne : k ≡ n → ⊥). get_or-set_other marked n k true false ne ∙ e)
    (cases_eq k n)

module _ (t : Table) (low : ℕ) (marked : List Bool) (bytes : List ℕ) (met : AreMet t low marked bytes) (b : ℕ) (from : IsFrom low b) where
  has_more : (class : ℕ) → HasClass t bytes class → HasClass t (bytes ++ b ∷ []) class
  has_more class h = (
    h.0,
    omega (arith, h.1, length_push bytes b),
    ap (λ x. get_or t.classes x 0) (get_or_append_left bytes (b ∷ []) 0 h.0 h.1) ∙ h.2,
  )

  has_new : HasClass t (bytes ++ b ∷ []) (get_or t.classes b 0)
  has_new = (length bytes, omega (arith, length_push bytes b), ap (λ x. get_or t.classes x 0) (get_or_push bytes b 0 (length bytes) refl))

  pub met_more : AreMet t low (set marked (get_or t.classes b 0) true) (bytes ++ b ∷ [])
  met_more = record {
    many = length-set marked (get_or t.classes b 0) true ∙ met.many;
    from = All-push (IsFrom low) bytes b met.from from;
    each = λ class e.
        ⊎_elim
        (λ (q : class ≡ get_or t.classes b 0). subst (HasClass t (bytes ++ b ∷ [])) (sym q) has_new)
        (λ (ne : class ≡ get_or t.classes b 0 → ⊥). has_more class
        (met.each class (sym (get_or-set_other marked (get_or t.classes b 0) class true false ne) ∙ e)))
        (cases_eq class (get_or t.classes b 0));
  }
