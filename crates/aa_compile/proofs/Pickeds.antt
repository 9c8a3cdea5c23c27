-- Elements by the numbers of those that pass a test.
use Rattle.std.proofs.Common.{◌≡◌, ◌⊎◌, Bool, true, false, true≢false, List, [], ◌∷◌, map, ℕ, ◌+◌, ◌<◌, ◌≤◌, suc, zero}
use Rattle.std.proofs.Common.{length, get_or, Contains, subst, refl, sym, ap, ◌∙◌, Option, Some, None, ⊎_elim, inl, inr, arith}
use Rattle.std.specs.List.{filter, filter_map, slice_get, cons_option}
use Rattle.std.specs.List.Sorted.{IsStrictlyIncreasing}
use Rattle.std.proofs.lemmas.Bool.{cases_Bool, cases_lt, cond-true, cond-false}
use Rattle.std.proofs.lemmas.List.{get_or_default}
use Rattle.aa_compile.specs.Gathered.{picked}
use Rattle.aa_auto.proofs.SortedLemmas.{rises, contains_at, at_of, first_least, rising_tail, behind_first}

above_first : (z : ℕ) (zs : List ℕ) (n : ℕ) → IsStrictlyIncreasing (z ∷ zs) → Contains zs n → z < n
above_first z zs n rise c = let q = at_of zs n c in omega (arith, rises (z ∷ zs) rise 0 (suc q.0) (omega arith) (omega (arith, q.1)), q.2)

no_nil : (n : ℕ) → Contains [] n → ⊥
no_nil n c = omega (arith, c.1)

-- the numbers are those of the elements that pass, counted from k
pub record Members {X : Type 0} (test : X → Bool) (xs : List X) (k : ℕ) (numbers : List ℕ) : Type 0 where
  pub from : (n : ℕ) → Contains numbers n → (i : ℕ) × (x : X) × (n ≡ k + i) × (slice_get xs i ≡ Some x) × (test x ≡ true)
  pub has : (i : ℕ) (x : X) → slice_get xs i ≡ Some x → test x ≡ true → Contains numbers (k + i)

module _ {X : Type 0} (test : X → Bool) (get : ℕ → Option X) where
  -- the first passes: the rest of the numbers are those of the rest
  passes_tail : (x : X) (xs : List X) (k z : ℕ) (zs : List ℕ) → z ≡ k → IsStrictlyIncreasing (z ∷ zs) → Members test (x ∷ xs) k (z ∷ zs) → Members test xs (suc k) zs
  passes_tail x xs k z zs same up m = record {
    from = λ n c. let q = m.from n (behind_first z zs n c) in later n c q.0 q.1 q.2 q.3 q.4;
    has = λ i y e t.
        ⊎_elim
        (λ (h : z ≡ k + suc i). absurd (omega (arith, h, same)))
        (λ (h : (z < k + suc i) × Contains zs (k + suc i)). let at : k + suc i ≡ suc k + i = omega arith in subst (Contains zs) at h.1)
        (first_least z zs (k + suc i) up (m.has (suc i) y e t));
  }
    where
      later : (n : ℕ) → Contains zs n → (i : ℕ) (y : X) → n ≡ k + i → slice_get (x ∷ xs) i ≡ Some y → test y ≡ true → (i : ℕ) × (x : X) × (n ≡ suc k + i) × (slice_get xs i ≡ Some x) × (test x ≡ true)
      later n c zero y e g t = absurd (omega (arith, above_first z zs n up c, e, same))
      later n c (suc i) y e g t = (i, y, omega (arith, e), g, t)

  -- it doesn't: they are all those of the rest
  fails_tail : (x : X) (xs : List X) (k : ℕ) (ns : List ℕ) → test x ≡ false → Members test (x ∷ xs) k ns → Members test xs (suc k) ns
  fails_tail x xs k ns no' m = record {
    from = λ n c. let q = m.from n c in later n q.0 q.1 q.2 q.3 q.4;
    has = λ i y e t. let at : k + suc i ≡ suc k + i = omega arith in subst (Contains ns) at (m.has (suc i) y e t);
  }
    where
      later : (n i : ℕ) (y : X) → n ≡ k + i → slice_get (x ∷ xs) i ≡ Some y → test y ≡ true → (i : ℕ) × (x : X) × (n ≡ suc k + i) × (slice_get xs i ≡ Some x) × (test x ≡ true)
      later n zero y e g t = let same : x ≡ y = cc in absurd (true≢false (sym t ∙ ap test (sym same) ∙ no'))
      later n (suc i) y e g t = (i, y, omega (arith, e), g, t)

  pub picked_passing : (xs : List X) (k : ℕ) (ns : List ℕ) → ((i n : ℕ) → n ≡ k + i → get n ≡ slice_get xs i) → IsStrictlyIncreasing ns → Members test xs k ns → filter_map get ns ≡ filter test xs
  picked_passing [] k [] gets up m = refl
  picked_passing [] k (z ∷ zs) gets up m = let q = m.from z (contains_at (z ∷ zs) 0 z (omega arith) refl) in absurd (let e = q.3 in cc)
  picked_passing (x ∷ xs) k [] gets up m =
      ⊎_elim
      (λ (yes : test x ≡ true). absurd (no_nil (k + 0) (m.has 0 x refl yes)))
      (λ (no' : test x ≡ false).
      picked_passing xs (suc k) [] (λ i n e. gets (suc i) n (omega (arith, e))) up (fails_tail x xs k [] no' m)
      ∙ sym (cond-false (test x) (x ∷ filter test xs) (filter test xs) no'))
      (cases_Bool (test x))
  picked_passing (x ∷ xs) k (z ∷ zs) gets up m =
      ⊎_elim
      (λ (yes : test x ≡ true).
      let least : z ≡ k = ⊎_elim (λ (h : z ≡ k + 0). omega (arith, h)) (λ (h : (z < k + 0) × Contains zs (k + 0)). let q = m.from z (contains_at (z ∷ zs) 0 z (omega arith) refl) in absurd (omega (arith, h.0, q.2)))
      (first_least z zs (k + 0) up (m.has 0 x refl yes)) in
      ap (λ o. cons_option o (filter_map get zs)) (gets 0 z (omega (arith, least)))
      ∙ ap (λ l. x ∷ l) (picked_passing xs (suc k) zs (λ i n e. gets (suc i) n (omega (arith, e))) (rising_tail z zs up) (passes_tail x xs k z zs least up m))
      ∙ sym (cond-true (test x) (x ∷ filter test xs) (filter test xs) yes))
      (λ (no' : test x ≡ false).
      picked_passing xs (suc k) (z ∷ zs) (λ i n e. gets (suc i) n (omega (arith, e))) up (fails_tail x xs k (z ∷ zs) no' m)
      ∙ sym (cond-false (test x) (x ∷ filter test xs) (filter test xs) no'))
      (cases_Bool (test x))

-- the elements with these numbers are those that pass
pub picked_is : {X : Type 0} (test : X → Bool) (xs : List X) (ns : List ℕ) → IsStrictlyIncreasing ns → Members test xs 0 ns → picked xs ns ≡ filter test xs
picked_is test xs ns up m = picked_passing test (slice_get xs) xs 0 ns (λ i n e. let f : n ≡ i = omega (arith, e) in ap (slice_get xs) f) up m

-- the elements with numbers, each as f makes it
pub picked-map : {X Y : Type 0} (f : X → Y) (xs : List X) (ns : List ℕ) → picked (map f xs) ns ≡ map f (picked xs ns)
picked-map f xs [] = refl
picked-map f xs (n ∷ ns) = ap (λ o. cons_option o (picked (map f xs) ns)) (got f xs n) ∙ ap (cons_option (mapped f (slice_get xs n))) (picked-map f xs ns) ∙ consed f (slice_get xs n) (picked xs ns)
  where
    mapped : {X Y : Type 0} (f : X → Y) → Option X → Option Y
    mapped f None = None
    mapped f (Some x) = Some (f x)

    got : {X Y : Type 0} (f : X → Y) (xs : List X) (n : ℕ) → slice_get (map f xs) n ≡ mapped f (slice_get xs n)
    got f [] n = refl
    got f (x ∷ xs) zero = refl
    got f (x ∷ xs) (suc n) = got f xs n

    consed : {X Y : Type 0} (f : X → Y) (o : Option X) (xs : List X) → cons_option (mapped f o) (map f xs) ≡ map f (cons_option o xs)
    consed f None xs = refl
    consed f (Some x) xs = refl
