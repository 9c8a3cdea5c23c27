-- Lists read by an index, and tests.
use Rattle.std.proofs.Common.{◌≡◌, ◌≢◌, ℕ, zero, suc, ◌<◌, ◌≤◌, ◌⊎◌, inl, inr, cond, ◌||◌, Bool, true, false, List, []}
use Rattle.std.proofs.Common.{◌∷◌, ◌++◌, length, take, set, refl, sym, ap, ◌∙◌, arith, slice_get, Option, Some, None, subst}
use mathlib.Core.Option.{some}
use lib.ListN.{get_elem?}
use Rattle.atomic_table.proofs.Lists.{at_set}

pub cond_case : {X : Type 0} (P : X → Type 0) (b : Bool) (x y : X) → (b ≡ true → P x) → (b ≡ false → P y) → P (cond b x y)
cond_case P true x y t f = t refl
cond_case P false x y t f = f refl

module _ {X : Type 0} where
  pub snoc_cases : (xs : List X) (y : X) (i : ℕ) (x : X) → slice_get (xs ++ y ∷ []) i ≡ Some x → (slice_get xs i ≡ Some x) ⊎ ((i ≡ length xs) × (y ≡ x))
  snoc_cases [] y zero x e = inr (refl, cc)
  snoc_cases [] y (suc i) x e = inl e
  snoc_cases (z ∷ xs) y zero x e = inl e
  snoc_cases (z ∷ xs) y (suc i) x e = elim (snoc_cases xs y i x e) [ inl h ↦ inl h | inr h ↦ inr (ap suc h.0, h.1) ]

  pub snoc_keeps : (xs ys : List X) (i : ℕ) (x : X) → slice_get xs i ≡ Some x → slice_get (xs ++ ys) i ≡ Some x
  snoc_keeps [] ys i x e = cc
  snoc_keeps (z ∷ xs) ys zero x e = e
  snoc_keeps (z ∷ xs) ys (suc i) x e = snoc_keeps xs ys i x e

  -- what holds of the one that is set, and of each other, holds of all
  pub each_set : (R : ℕ → X → Type 0) (xs : List X) (i : ℕ) (y : X) → R i y → ((j : ℕ) (x : X) → j ≢ i → get_elem? xs j ≡ some x → R j x)
      → (j : ℕ) (x : X) → get_elem? (set xs i y) j ≡ some x → R j x
  each_set R xs i y here other j x at =
      elim (at_set xs i j y x at) [
        | inl h ↦ subst (λ n. R n x) (sym h.0) (subst (R i) h.1 here)
        | inr h ↦ other j x h.0 h.1
      ]

  pub at_here : (xs : List X) (i : ℕ) (x y : X) → get_elem? xs i ≡ some x → get_elem? (set xs i y) i ≡ some y
  at_here [] i x y e = cc
  at_here (z ∷ xs) zero x y e = refl
  at_here (z ∷ xs) (suc i) x y e = at_here xs i x y e

  pub there : (xs : List X) (n : ℕ) → n < length xs → (x : X) × (slice_get xs n ≡ Some x)
  there [] n h = absurd (omega arith)
  there (x ∷ xs) zero h = (x, refl)
  there (x ∷ xs) (suc n) h = there xs n (omega arith)

module _ {X : Type 0} where
  pub get_take : (xs : List X) (n i : ℕ) (x : X) → slice_get (take n xs) i ≡ Some x → slice_get xs i ≡ Some x
  get_take xs zero i x e = cc
  get_take [] (suc n) i x e = e
  get_take (y ∷ xs) (suc n) zero x e = e
  get_take (y ∷ xs) (suc n) (suc i) x e = get_take xs n i x e

  pub take_take : (m n : ℕ) (xs : List X) → m ≤ n → take m (take n xs) ≡ take m xs
  take_take zero n xs h = refl
  take_take (suc m) zero xs h = absurd (omega arith)
  take_take (suc m) (suc n) [] h = refl
  take_take (suc m) (suc n) (x ∷ xs) h = ap (λ l. x ∷ l) (take_take m n xs (omega arith))

pub split_eq : (b : Bool) → (b ≡ true) ⊎ (b ≡ false)
split_eq true = inl refl
split_eq false = inr refl

pub or_cases : (a b : Bool) → (a || b) ≡ true → (a ≡ true) ⊎ (b ≡ true)
or_cases true b h = inl refl
or_cases false b h = inr h

pub or_left : (a b : Bool) → a ≡ true → (a || b) ≡ true
or_left true b e = refl
or_left false b e = cc

pub or_right : (a b : Bool) → b ≡ true → (a || b) ≡ true
or_right true b e = refl
or_right false b e = e

-- a seat knows one machine and one opening state
pub same_terms : {M S : Type 0} (o : Option (M × S)) (m n : M) (t u : S) → o ≡ Some (m, t) → o ≡ Some (n, u) → (m ≡ n) × (t ≡ u)
same_terms {M} {S} (Some p) m n t u e f =
    let a : p ≡ (m, t) = cc in
    let b : p ≡ (n, u) = cc in
    (ap (λ (y : M × S). y.0) (sym a ∙ b), ap (λ (y : M × S). y.1) (sym a ∙ b))
same_terms None m n t u e f = cc
