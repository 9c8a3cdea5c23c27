-- Requests of a word are added one by one.
use Rattle.std.proofs.Common.{◌≡◌, ℕ, List, [], ◌∷◌, ◌++◌, Bool, true, false, Contains, refl, subst, ⊎_elim}
use Rattle.std.proofs.lemmas.List.Elements.{Contains-append_cases, Contains-push_cases}
use Rattle.aa_model.specs.Requests.{is_path, is_mask}
use Rattle.aa_model.specs.declared.request.Request.{Request}
use Rattle.aa_representatives.specs.Representatives.{Adds}
use Rattle.aa_representatives.proofs.Adding.{none_in}

module _ (Kind : Request → Type 0) where
  -- all are of the kind, where those that were there are
  pub adds_all : (was now : List Request) → Adds Kind was now → ((r : Request) → Contains was r → Kind r) → (r : Request) → Contains now r → Kind r
  adds_all was now x before r c = ⊎_elim (before r) (x.each r) (Contains-append_cases was x.more r (subst (λ (l : List Request). Contains l r) x.are c))

  pub adds_pushed : (was now : List Request) (r : Request) → now ≡ was ++ r ∷ [] → Kind r → Adds Kind was now
  adds_pushed was now r e kind = record {
    more = r ∷ [];
    are = e;
    each = λ q c. ⊎_elim (λ (d : Contains [] q). absurd (none_in q d)) (λ (f : r ≡ q). subst Kind f kind) (Contains-push_cases [] r q c);
  }

-- a mask that isn't refused can be asked for
pub good_mask : (path : List ℕ) (mask : ℕ) → is_path path ≡ true → ((is_path path ≡ true) × (is_mask mask ≡ false) → ⊥) → is_mask mask ≡ true
good_mask path mask asked not_bad = of (is_mask mask) refl
  where
    of : (b : Bool) → is_mask mask ≡ b → is_mask mask ≡ true
    of true e = e
    of false e = absurd (not_bad (asked, e))
