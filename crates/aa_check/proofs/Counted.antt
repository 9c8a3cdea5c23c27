-- What holds of each element of two lists, one after another.
use Rattle.std.proofs.Common.{◌≡◌, ℕ, ◌+◌, ◌<◌, ◌≤◌, List, [], ◌∷◌, ◌++◌, length, take, drop, Bool, Some, refl, sym, ap, ◌∙◌, ◌⊎◌, inl, inr, ⊎_elim, zero, suc, arith, subst}
use Rattle.std.specs.Prelude.{slice_get, count_by}
use Rattle.std.proofs.lemmas.List.{take-append-drop, take-take}
use Rattle.std.proofs.lemmas.List.Sums.{sum_by-append}
use Rattle.std.proofs.lemmas.Option.{same_Some}

-- an element of a list, or the one that is pushed
pushed : {Y : Type 0} (ys : List Y) (y : Y) (n : ℕ) (r : Y) → slice_get (ys ++ y ∷ []) n ≡ Some r → ((n < length ys) × (slice_get ys n ≡ Some r)) ⊎ ((n ≡ length ys) × (r ≡ y))
pushed [] y zero r e = inr (refl, sym (same_Some y r e))
pushed [] y (suc n) r e = absurd cc
pushed (x ∷ ys) y zero r e = inl (omega arith, e)
pushed (x ∷ ys) y (suc n) r e = ⊎_elim
    (λ (front : (n < length ys) × (slice_get ys n ≡ Some r)). let lt = front.0 in inl (omega arith, front.1))
    (λ (last : (n ≡ length ys) × (r ≡ y)). let here = last.0 in inr (omega arith, last.1))
    (pushed ys y n r e)

-- what holds of the elements so far at their places, and of the next ones, holds of them all
pub each_more : {X Y : Type 0} (R : ℕ → X → Y → Type 0) (xs : List X) (ys : List Y) (i : ℕ) (x : X) (y : Y) → length ys ≡ i → slice_get xs i ≡ Some x → R i x y
    → ((n : ℕ) (p : X) (r : Y) → slice_get xs n ≡ Some p → slice_get ys n ≡ Some r → R n p r)
    → (n : ℕ) (p : X) (r : Y) → slice_get xs n ≡ Some p → slice_get (ys ++ y ∷ []) n ≡ Some r → R n p r
each_more R xs ys i x y many is_x here each n p r ep er = ⊎_elim
    (λ (front : (n < length ys) × (slice_get ys n ≡ Some r)). each n p r ep front.1)
    (λ (last : (n ≡ length ys) × (r ≡ y)).
    let at : n ≡ i = last.0 ∙ many in
    let is_p : x ≡ p = same_Some x p (sym is_x ∙ sym (ap (slice_get xs) at) ∙ ep) in
    subst (λ k. R k p r) (sym at) (subst (λ q. R i q r) is_p (subst (λ s. R i x s) (sym last.1) here)))
    (pushed ys y n r er)

pub split_counts : {X : Type 0} (p : X → Bool) (xs : List X) (from to : ℕ) → from ≤ to → count_by p (take from xs) + count_by p (drop from (take to xs)) ≡ count_by p (take to xs)
split_counts p xs from to le =
    ap (λ ys. count_by p ys + count_by p (drop from (take to xs))) (sym (take-take from to xs le))
    ∙ sym (sum_by-append _ (take from (take to xs)) (drop from (take to xs)))
    ∙ ap (count_by p) (take-append-drop from (take to xs))
