-- Elements of lists: of what a filter keeps, of a map, and of lists joined end to end.
use Rattle.std.proofs.Common.{◌≡◌, ◌⊎◌, ℕ, zero, suc, ◌<◌, List, [], ◌∷◌, map, get_or, length, Bool, true, false, true≢false, cond, refl, sym, ap, ◌∙◌, subst, Contains, arith, inl, inr, ⊎_elim}
use Rattle.std.specs.Prelude.{◌||◌}
use Rattle.std.specs.List.{filter, flat_map, list_any}
use Rattle.std.proofs.lemmas.List.Elements.{Contains-append_left, Contains-append_right, Contains-append_cases}
use Rattle.aa_compile.proofs.ConflictLemmas.{in_head, in_tail, in_cases, not_in}

module _ {X : Type 0} (f : X → Bool) where
  pub in_filter : (xs : List X) (x : X) → Contains (filter f xs) x → Contains xs x × (f x ≡ true)
  in_filter [] x c = absurd (not_in x c)
  in_filter (y ∷ ys) x c = at (in_filter ys x) (f y) refl c
    where
      at : (Contains (filter f ys) x → Contains ys x × (f x ≡ true)) → (b : Bool) → f y ≡ b → Contains (cond b (y ∷ filter f ys) (filter f ys)) x → Contains (y ∷ ys) x × (f x ≡ true)
      at rest true e d =
          ⊎_elim
          (λ (same : y ≡ x). (subst (λ z. Contains (y ∷ ys) z) same (in_head y ys), ap f (sym same) ∙ e))
          (λ (d : Contains (filter f ys) x). let t = rest d in (in_tail y x ys t.0, t.1))
          (in_cases y x (filter f ys) d)
      at rest false e d = let t = rest d in (in_tail y x ys t.0, t.1)

  pub filter_in : (xs : List X) (x : X) → Contains xs x → f x ≡ true → Contains (filter f xs) x
  filter_in [] x c e = absurd (not_in x c)
  filter_in (y ∷ ys) x c e = ⊎_elim (λ (same : y ≡ x). here same (f y) refl) (λ (d : Contains ys x). there (f y) (filter_in ys x d e)) (in_cases y x ys c)
    where
      here : y ≡ x → (b : Bool) → f y ≡ b → Contains (cond b (y ∷ filter f ys) (filter f ys)) x
      here same true p = subst (λ z. Contains (y ∷ filter f ys) z) same (in_head y (filter f ys))
      here same false p = absurd (true≢false (sym (ap f same ∙ e) ∙ p))

      there : (b : Bool) → Contains (filter f ys) x → Contains (cond b (y ∷ filter f ys) (filter f ys)) x
      there true d = in_tail y x (filter f ys) d
      there false d = d

  -- some element passes the test where the list has one that does
  pub any_in : (xs : List X) (x : X) → Contains xs x → f x ≡ true → list_any f xs ≡ true
  any_in [] x c e = absurd (not_in x c)
  any_in (y ∷ ys) x c e = ⊎_elim (λ (same : y ≡ x). ap (λ (b : Bool). b || list_any f ys) (ap f same ∙ e)) (λ (d : Contains ys x). or_true (f y) (any_in ys x d e)) (in_cases y x ys c)
    where
      or_true : (a : Bool) {b : Bool} → b ≡ true → (a || b) ≡ true
      or_true true p = refl
      or_true false p = p

  pub in_any : (xs : List X) → list_any f xs ≡ true → (x : X) × Contains xs x × (f x ≡ true)
  in_any [] e = absurd (true≢false (sym e))
  in_any (y ∷ ys) e = at (in_any ys) (f y) refl e
    where
      at : (list_any f ys ≡ true → (x : X) × Contains ys x × (f x ≡ true)) → (b : Bool) → f y ≡ b → (b || list_any f ys) ≡ true → (x : X) × Contains (y ∷ ys) x × (f x ≡ true)
      at rest true p n = (y, in_head y ys, p)
      at rest false p n = let t = rest n in (t.0, in_tail y t.0 ys t.1, t.2)

  -- none passes where no element does
  pub none_in : (xs : List X) → list_any f xs ≡ false → (x : X) → Contains xs x → f x ≡ false
  none_in xs e x c = at (f x) refl
    where
      at : (b : Bool) → f x ≡ b → f x ≡ false
      at true p = absurd (true≢false (sym (any_in xs x c p) ∙ e))
      at false p = p

module _ {X Y : Type 0} (f : X → Y) where
  pub in_map : (xs : List X) (y : Y) → Contains (map f xs) y → (x : X) × Contains xs x × (f x ≡ y)
  in_map [] y c = absurd (not_in y c)
  in_map (x ∷ xs) y c =
      ⊎_elim
      (λ (e : f x ≡ y). (x, in_head x xs, e))
      (λ (d : Contains (map f xs) y). let t = in_map xs y d in (t.0, in_tail x t.0 xs t.1, t.2))
      (in_cases (f x) y (map f xs) c)

  pub map_in : (xs : List X) (x : X) → Contains xs x → Contains (map f xs) (f x)
  map_in [] x c = absurd (not_in x c)
  map_in (z ∷ zs) x c =
      ⊎_elim
      (λ (e : z ≡ x). subst (λ w. Contains (f z ∷ map f zs) (f w)) e (in_head (f z) (map f zs)))
      (λ (d : Contains zs x). in_tail (f z) (f x) (map f zs) (map_in zs x d))
      (in_cases z x zs c)

module _ {X Y : Type 0} (f : X → List Y) where
  pub in_flat_map : (xs : List X) (y : Y) → Contains (flat_map f xs) y → (x : X) × Contains xs x × Contains (f x) y
  in_flat_map [] y c = absurd (not_in y c)
  in_flat_map (x ∷ xs) y c =
      ⊎_elim
      (λ (d : Contains (f x) y). (x, in_head x xs, d))
      (λ (d : Contains (flat_map f xs) y). let t = in_flat_map xs y d in (t.0, in_tail x t.0 xs t.1, t.2))
      (Contains-append_cases (f x) (flat_map f xs) y c)

  pub flat_map_in : (xs : List X) (x : X) (y : Y) → Contains xs x → Contains (f x) y → Contains (flat_map f xs) y
  flat_map_in [] x y c d = absurd (not_in x c)
  flat_map_in (z ∷ zs) x y c d =
      ⊎_elim
      (λ (e : z ≡ x). Contains-append_left (f z) (flat_map f zs) y (subst (λ w. Contains (f w) y) (sym e) d))
      (λ (r : Contains zs x). Contains-append_right (f z) (flat_map f zs) y (flat_map_in zs x y r d))
      (in_cases z x zs c)
