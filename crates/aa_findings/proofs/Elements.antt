-- Elements of lists: those that pass a test, and those of lists joined end to end.
use Rattle.std.proofs.Common.{◌≡◌, List, [], ◌∷◌, Bool, true, false, true≢false, refl, sym, ap, ◌∙◌, subst, Contains, ⊎_elim}
use Rattle.std.specs.Prelude.{◌||◌}
use Rattle.std.specs.List.{flat_map, list_any}
use Rattle.std.proofs.lemmas.List.Elements.{Contains-append_left, Contains-append_right, Contains-append_cases}
use Rattle.aa_compile.proofs.ConflictLemmas.{in_head, in_tail, in_cases, not_in}

module _ {X : Type 0} (f : X → Bool) where
  -- some element passes the test where the list has one that does
  pub any_in : (xs : List X) (x : X) → Contains xs x → f x ≡ true → list_any f xs ≡ true
  any_in [] x c e = absurd (not_in x c)
  any_in (y ∷ ys) x c e = ⊎_elim (λ (same : y ≡ x). ap (λ (b : Bool). b || list_any f ys) (ap f same ∙ e)) (λ (d : Contains ys x). or_true (f y) (any_in ys x d e)) (in_cases y x ys c)
    where
      or_true : (a : Bool) {b : Bool} → b ≡ true → (a || b) ≡ true
      or_true true p = refl
      or_true false p = p

  pub in_any : (xs : List X) → list_any f xs ≡ true → (x : X) × Contains xs x × (f x ≡ true)
  in_any [] e = absurd (true≢false (sym e))
  in_any (y ∷ ys) e = at (in_any ys) (f y) refl e
    where
      at : (list_any f ys ≡ true → (x : X) × Contains ys x × (f x ≡ true)) → (b : Bool) → f y ≡ b → (b || list_any f ys) ≡ true → (x : X) × Contains (y ∷ ys) x × (f x ≡ true)
      at rest true p n = (y, in_head y ys, p)
      at rest false p n = let t = rest n in (t.0, in_tail y t.0 ys t.1, t.2)

module _ {X Y : Type 0} (f : X → List Y) where
  pub in_flat_map : (xs : List X) (y : Y) → Contains (flat_map f xs) y → (x : X) × Contains xs x × Contains (f x) y
  in_flat_map [] y c = absurd (not_in y c)
  in_flat_map (x ∷ xs) y c =
      ⊎_elim
      (λ (d : Contains (f x) y). (x, in_head x xs, d))
      (λ (d : Contains (flat_map f xs) y). let t = in_flat_map xs y d in (t.0, in_tail x t.0 xs t.1, t.2))
      (Contains-append_cases (f x) (flat_map f xs) y c)

  pub flat_map_in : (xs : List X) (x : X) (y : Y) → Contains xs x → Contains (f x) y → Contains (flat_map f xs) y
  flat_map_in [] x y c d = absurd (not_in x c)
  flat_map_in (z ∷ zs) x y c d =
      ⊎_elim
      (λ (e : z ≡ x). Contains-append_left (f z) (flat_map f zs) y (subst (λ w. Contains (f w) y) (sym e) d))
      (λ (r : Contains zs x). Contains-append_right (f z) (flat_map f zs) y (flat_map_in zs x y r d))
      (in_cases z x zs c)
