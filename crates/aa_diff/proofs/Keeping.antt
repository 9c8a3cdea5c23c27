-- What is put in order is kept, each of it and nothing else.
use Rattle.std.proofs.Common.{◌≡◌, ℕ, zero, suc, ◌<◌, Bool, true, false, true≢false, cond, List, [], ◌∷◌, ◌++◌, map}
use Rattle.std.proofs.Common.{refl, sym, ap, ◌∙◌, arith, ◌⊎◌, inl, inr, ⊎_elim}
use Rattle.std.specs.Prelude.{◌↔◌, Contains}
use Rattle.std.proofs.lemmas.List.Elements.{Contains-append_left, Contains-append_right, Contains-append_cases}
use Rattle.aa_model.specs.declared.policy.Policy.{Policy}
use Rattle.aa_passed_over.specs.Apart.{ApartRule}
use Rattle.aa_diff.specs.declared.finding.Finding.{Finding}
use Rattle.aa_diff.specs.Sorted.{put_in, sorted_by}
use Rattle.aa_diff.specs.Order.{goes_before, in_order}
use Rattle.aa_diff.specs.Lines.{Told, Found, PassedOver, stands_above, lines_with, KeepLines}

-- an item is one of a list
abbrev Among : {X : Type 0} → List X → X → Type 0
Among [] x = ⊥
Among (y ∷ ys) x = (y ≡ x) ⊎ Among ys x

to_among : {X : Type 0} (xs : List X) (x : X) → Contains xs x → Among xs x
to_among [] x (k, lt, is) = absurd (omega (arith, lt))
to_among (y ∷ ys) x (zero, lt, is) = inl is
to_among (y ∷ ys) x (suc k, lt, is) = inr (to_among ys x (k, omega (arith, lt), is))

from_among : {X : Type 0} (xs : List X) (x : X) → Among xs x → Contains xs x
from_among [] x h = absurd h
from_among (y ∷ ys) x (inl is) = (zero, omega arith, is)
from_among (y ∷ ys) x (inr h) = let c = from_among ys x h in (suc c.0, omega (arith, c.1), c.2)

module _ {X : Type 0} (before : X → X → Bool) where
  put_in_from : (x z : X) (ys : List X) → Among (put_in before x ys) z → Among (x ∷ ys) z
  put_in_from x z [] h = h
  put_in_from x z (y ∷ ys) h = at (before y x) (put_in_from x z ys) h
    where
      at : (b : Bool) → (Among (put_in before x ys) z → Among (x ∷ ys) z)
          → Among (cond b (y ∷ put_in before x ys) (x ∷ y ∷ ys)) z → Among (x ∷ y ∷ ys) z
      at true behind (inl is) = inr (inl is)
      at true behind (inr later) = ⊎_elim (λ (is : x ≡ z). inl is) (λ (rest : Among ys z). inr (inr rest)) (behind later)
      at false behind all = all

  put_in_to : (x z : X) (ys : List X) → Among (x ∷ ys) z → Among (put_in before x ys) z
  put_in_to x z [] h = h
  put_in_to x z (y ∷ ys) h = at (before y x) (put_in_to x z ys) h
    where
      at : (b : Bool) → (Among (x ∷ ys) z → Among (put_in before x ys) z)
          → Among (x ∷ y ∷ ys) z → Among (cond b (y ∷ put_in before x ys) (x ∷ y ∷ ys)) z
      at true behind (inl is) = inr (behind (inl is))
      at true behind (inr (inl is)) = inl is
      at true behind (inr (inr rest)) = inr (behind (inr rest))
      at false behind all = all

  sorted_from : (z : X) (xs : List X) → Among (sorted_by before xs) z → Among xs z
  sorted_from z [] h = h
  sorted_from z (x ∷ xs) h =
      ⊎_elim (λ (is : x ≡ z). inl is) (λ (rest : Among (sorted_by before xs) z). inr (sorted_from z xs rest)) (put_in_from x z (sorted_by before xs) h)

  sorted_to : (z : X) (xs : List X) → Among xs z → Among (sorted_by before xs) z
  sorted_to z [] h = h
  sorted_to z (x ∷ xs) (inl is) = put_in_to x z (sorted_by before xs) (inl is)
  sorted_to z (x ∷ xs) (inr rest) = put_in_to x z (sorted_by before xs) (inr (sorted_to z xs rest))

  sorted_keeps : (xs : List X) (z : X) → Contains (sorted_by before xs) z ↔ Contains xs z
  sorted_keeps xs z = (
    (λ (c : Contains (sorted_by before xs) z). from_among xs z (sorted_from z xs (to_among (sorted_by before xs) z c))),
    (λ (c : Contains xs z). from_among (sorted_by before xs) z (sorted_to z xs (to_among xs z c))),
  )

-- ---- findings and rules among lines

is_found : Told → Bool
is_found (Found f) = true
is_found (PassedOver r) = false

finding_of : Finding → Told → Finding
finding_of d (Found f) = f
finding_of d (PassedOver r) = d

rule_of : ApartRule → Told → ApartRule
rule_of d (Found f) = d
rule_of d (PassedOver r) = r

found_to : (fs : List Finding) (f : Finding) → Among fs f → Among (map Found fs) (Found f)
found_to [] f h = h
found_to (g ∷ fs) f (inl is) = inl (ap Found is)
found_to (g ∷ fs) f (inr rest) = inr (found_to fs f rest)

found_from : (fs : List Finding) (f : Finding) → Among (map Found fs) (Found f) → Among fs f
unfolding finding_of
found_from [] f h = h
found_from (g ∷ fs) f (inl is) = inl (ap (finding_of f) is)
found_from (g ∷ fs) f (inr rest) = inr (found_from fs f rest)

passed_to : (rs : List ApartRule) (r : ApartRule) → Among rs r → Among (map PassedOver rs) (PassedOver r)
passed_to [] r h = h
passed_to (s ∷ rs) r (inl is) = inl (ap PassedOver is)
passed_to (s ∷ rs) r (inr rest) = inr (passed_to rs r rest)

passed_from : (rs : List ApartRule) (r : ApartRule) → Among (map PassedOver rs) (PassedOver r) → Among rs r
unfolding rule_of
passed_from [] r h = h
passed_from (s ∷ rs) r (inl is) = inl (ap (rule_of r) is)
passed_from (s ∷ rs) r (inr rest) = inr (passed_from rs r rest)

no_found : (fs : List Finding) (r : ApartRule) → Among (map Found fs) (PassedOver r) → ⊥
unfolding is_found
no_found [] r h = h
no_found (g ∷ fs) r (inl is) = true≢false (ap is_found is)
no_found (g ∷ fs) r (inr rest) = no_found fs r rest

no_passed : (rs : List ApartRule) (f : Finding) → Among (map PassedOver rs) (Found f) → ⊥
unfolding is_found
no_passed [] f h = h
no_passed (s ∷ rs) f (inl is) = true≢false (sym (ap is_found is))
no_passed (s ∷ rs) f (inr rest) = no_passed rs f rest

module _ (ps : List Policy) (fs : List Finding) (rs : List ApartRule) where
  found_in : (f : Finding) → Contains (map Found fs ++ map PassedOver rs) (Found f) → Contains fs f
  found_in f c =
      ⊎_elim (λ (h : Contains (map Found fs) (Found f)). from_among fs f (found_from fs f (to_among (map Found fs) (Found f) h)))
      (λ (h : Contains (map PassedOver rs) (Found f)). absurd (no_passed rs f (to_among (map PassedOver rs) (Found f) h)))
      (Contains-append_cases (map Found fs) (map PassedOver rs) (Found f) c)

  passed_in : (r : ApartRule) → Contains (map Found fs ++ map PassedOver rs) (PassedOver r) → Contains rs r
  passed_in r c =
      ⊎_elim (λ (h : Contains (map Found fs) (PassedOver r)). absurd (no_found fs r (to_among (map Found fs) (PassedOver r) h)))
      (λ (h : Contains (map PassedOver rs) (PassedOver r)). from_among rs r (passed_from rs r (to_among (map PassedOver rs) (PassedOver r) h)))
      (Contains-append_cases (map Found fs) (map PassedOver rs) (PassedOver r) c)

  keeps_found : (f : Finding) → Contains (lines_with ps fs rs) (Found f) ↔ Contains fs f
  keeps_found f =
      let both = sorted_keeps (stands_above ps) (map Found fs ++ map PassedOver rs) (Found f) in (
        (λ (c : Contains (lines_with ps fs rs) (Found f)). found_in f (both.0 c)),
        (λ (c : Contains fs f).
            both.1 (Contains-append_left (map Found fs) (map PassedOver rs) (Found f) (from_among (map Found fs) (Found f) (found_to fs f (to_among fs f c))))),
      )

  keeps_passed : (r : ApartRule) → Contains (lines_with ps fs rs) (PassedOver r) ↔ Contains rs r
  keeps_passed r =
      let both = sorted_keeps (stands_above ps) (map Found fs ++ map PassedOver rs) (PassedOver r) in (
        (λ (c : Contains (lines_with ps fs rs) (PassedOver r)). passed_in r (both.0 c)),
        (λ (c : Contains rs r).
            both.1 (Contains-append_right (map Found fs) (map PassedOver rs) (PassedOver r)
            (from_among (map PassedOver rs) (PassedOver r) (passed_to rs r (to_among rs r c))))),
      )

pub keep_lines : KeepLines
keep_lines = record {
  findings = λ ps fs f. sorted_keeps (goes_before ps) fs f;
  found = λ ps fs rs f. keeps_found ps fs rs f;
  passed_over = λ ps fs rs r. keeps_passed ps fs rs r;
}
