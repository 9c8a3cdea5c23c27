-- What holds of the first elements of a list, and of those that a test keeps.
use Rattle.std.proofs.Common.{◌≡◌, ◌⊎◌, ℕ, zero, suc, ◌<◌, ◌≤◌, List, [], ◌∷◌, length, get_or, Bool, true, false, cond, Contains, inl, inr, refl, sym, ap, ◌∙◌, subst, arith}
use Rattle.std.proofs.Common.{⊎_elim}
use Rattle.std.specs.Prelude.{◌||◌, filter}
use Rattle.std.specs.List.{list_any}
use Rattle.std.proofs.lemmas.List.Elements.{Contains-append_left, Contains-append_right, Contains-append_cases}

module _ {X : Type 0} where
  none_in : (x : X) → Contains [] x → ⊥
  none_in x c = omega (arith, c.1)

  pub head_in : (x : X) (xs : List X) → Contains (x ∷ xs) x
  head_in x xs = Contains-append_left (x ∷ []) xs x (0, omega arith, refl)

  pub tail_in : (y x : X) (xs : List X) → Contains xs x → Contains (y ∷ xs) x
  tail_in y x xs c = Contains-append_right (y ∷ []) xs x c

  pub one_in : (y x : X) → Contains (y ∷ []) x → y ≡ x
  one_in y x (zero, lt, e) = e
  one_in y x (suc k, lt, e) = absurd (omega (arith, lt))

  -- what holds of the first elements holds of each where there are no more
  pub of_each : (P : X → Type 0) (xs : List X) (i : ℕ) → length xs ≤ i → ((k : ℕ) (y : X) → k < i → get_or xs k y ≡ y → P y)
      → (y : X) → Contains xs y → P y
  of_each P xs i le before y c = before c.0 y (omega (arith, c.1, le)) c.2

module _ {X : Type 0} (f : X → Bool) where
  pub kept_in : (xs : List X) (x : X) → Contains (filter f xs) x → Contains xs x × (f x ≡ true)
  kept_in [] x c = absurd (none_in x c)
  kept_in (y ∷ ys) x c = at (λ (d : Contains (filter f ys) x). kept_in ys x d) (f y) refl c
    where
      at : (Contains (filter f ys) x → Contains ys x × (f x ≡ true)) → (b : Bool) → f y ≡ b
          → Contains (cond b (y ∷ filter f ys) (filter f ys)) x → Contains (y ∷ ys) x × (f x ≡ true)
      at rest false e c = let t = rest c in (tail_in y x ys t.0, t.1)
      at rest true e c =
          ⊎_elim
          (λ (h : Contains (y ∷ []) x).
          let same : y ≡ x = one_in y x h in (subst (λ (z : X). Contains (y ∷ ys) z) same (head_in y ys), subst (λ (z : X). f z ≡ true) same e))
          (λ (d : Contains (filter f ys) x). let t = rest d in (tail_in y x ys t.0, t.1))
          (Contains-append_cases (y ∷ []) (filter f ys) x c)

  pub filter_in : (xs : List X) (x : X) → Contains xs x → f x ≡ true → Contains (filter f xs) x
  filter_in [] x c e = absurd (none_in x c)
  filter_in (y ∷ ys) x c e = at (λ (d : Contains ys x). filter_in ys x d e) (f y) refl (Contains-append_cases (y ∷ []) ys x c)
    where
      at : (Contains ys x → Contains (filter f ys) x) → (b : Bool) → f y ≡ b → Contains (y ∷ []) x ⊎ Contains ys x
          → Contains (cond b (y ∷ filter f ys) (filter f ys)) x
      at rest true g (inl h) = subst (λ (z : X). Contains (y ∷ filter f ys) z) (one_in y x h) (head_in y (filter f ys))
      at rest true g (inr d) = tail_in y x (filter f ys) (rest d)
      at rest false g (inl h) = absurd (let t : true ≡ false = sym e ∙ ap f (sym (one_in y x h)) ∙ g in cc)
      at rest false g (inr d) = rest d

  pub some_in : (xs : List X) → list_any f xs ≡ true → (x : X) × Contains xs x × (f x ≡ true)
  some_in [] e = absurd (let g : false ≡ true = e in cc)
  some_in (y ∷ ys) e = at (λ (d : list_any f ys ≡ true). some_in ys d) (f y) refl e
    where
      at : (list_any f ys ≡ true → (x : X) × Contains ys x × (f x ≡ true)) → (b : Bool) → f y ≡ b → (b || list_any f ys) ≡ true
          → (x : X) × Contains (y ∷ ys) x × (f x ≡ true)
      at rest true is e = (y, head_in y ys, is)
      at rest false is e = let t = rest e in (t.0, tail_in y t.0 ys t.1, t.2)
