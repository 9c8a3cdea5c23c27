-- Sets that are closed position by position.
use Rattle.std.proofs.Common.{Bool, true, false, IsTrue, Contains, map, ◌≡◌, ℕ, ◌+◌, ◌≤◌, ◌<◌, ◌↔◌, List, [], ◌∷◌, ◌++◌}
use Rattle.std.proofs.Common.{length, get_or, set, take, suc, zero, Vec, Global, refl, sym, ap, ◌∙◌, subst, inl, inr, ⊎_elim, arith}
use Rattle.std.specs.List.{IsDistinct}
use Rattle.std.specs.List.Sorted.{IsPermutation, IsSorted}
use Rattle.std.specs.Ordering.{nat_cmp}
use Rattle.std.proofs.Math.Dec.{eqb}
use Rattle.std.proofs.lemmas.List.{take_more, get_or_default, get_or_append_left, get_or_push, length_push, get_or-set_same, get_or-set_other, length-set}
use Rattle.std.proofs.lemmas.List.Elements.{Contains-push, Contains-push_cases, Contains-append_left}
use Rattle.std.proofs.lemmas.List.Sorted.{IsPermutation-sym, Contains-permutation, IsNonDecreasingBy-from_sort}
use Rattle.std.proofs.lemmas.Map.Keys.{IsDistinct-from_apart, IsDistinct-IsPermutation, IsStrictlyIncreasing-from_distinct}
use Rattle.std.proofs.lemmas.Map.Steps.{length-le_from_distinct_below}
use Rattle.std.proofs.lemmas.Map.Views.{Contains-from_any}
use Rattle.std.proofs.lemmas.Bool.{cases_lt}
use Rattle.aa_auto.specs.Closed.{IsUpward, IsClosure, AreIndexed, Adds, AddsAll, IsClosing, IsReached}
use Rattle.aa_auto.proofs.SortedLemmas.{contains_at, at_of}

-- a number of the set stands at its index
pub stands : (indexes xs : List ℕ) (number : ℕ) → AreIndexed indexes xs → Contains xs number → (get_or indexes number 0 < length xs) × (get_or xs (get_or indexes number 0) 0 ≡ number)
stands indexes xs number is c =
    let q = at_of xs number c in
    let e : get_or indexes number 0 ≡ q.0 = ap (λ n. get_or indexes n 0) (sym q.2) ∙ (is q.0 q.1).1 in
    subst (λ i. (i < length xs) × (get_or xs i 0 ≡ number)) (sym e) (q.1, q.2)

-- so the test at its index tells whether it is there
pub told_by_index : (indexes xs : List ℕ) (number index : ℕ) (t : Bool) → index ≡ get_or indexes number 0 → AreIndexed indexes xs
    → (IsTrue t ↔ ((index < length xs) × (get_or xs index 0 ≡ number))) → IsTrue t ↔ Contains xs number
told_by_index indexes xs number index t e is test = (
  λ yes. let q = test.0 yes in contains_at xs index number q.0 q.1,
  λ c. test.1 (subst (λ i. (i < length xs) × (get_or xs i 0 ≡ number)) (sym e) (stands indexes xs number is c)),
)

-- a number that was there
pub was_there : (indexes xs : List ℕ) (number : ℕ) → AreIndexed indexes xs → Contains xs number → Adds indexes indexes xs xs number
was_there indexes xs number is c = record {
  many = refl;
  indexed = is;
  kept = λ k lt. (lt, refl);
  exact = λ n. (λ h. inl h, λ s. ⊎_elim (λ h. h) (λ (e : n ≡ number). subst (λ z. Contains xs z) (sym e) c) s);
}

-- one that wasn't
pub was_added : (indexes xs : List ℕ) (number : ℕ) → number < length indexes → AreIndexed indexes xs → (Contains xs number → ⊥) → Adds indexes (set indexes number (length xs)) xs (xs ++ number ∷ []) number
was_added indexes xs number inside is absent = record {
  many = same_length;
  indexed = indexed;
  kept = λ k lt. (omega (arith, lt, long), get_or_append_left xs (number ∷ []) 0 k lt);
  exact = λ n. (
    λ h. ⊎_elim (λ o. inl o) (λ (e : number ≡ n). inr (sym e)) (Contains-push_cases xs number n h),
    λ s. ⊎_elim (λ o. Contains-append_left xs (number ∷ []) n o) (λ (e : n ≡ number). subst (λ z. Contains (xs ++ number ∷ []) z) (sym e) (Contains-push xs number)) s,
  );
}
  where
    same_length : length (set indexes number (length xs)) ≡ length indexes
    same_length = length-set indexes number (length xs)

    long : length (xs ++ number ∷ []) ≡ length xs + 1
    long = length_push xs number

    indexed : AreIndexed (set indexes number (length xs)) (xs ++ number ∷ [])
    indexed k lt =
        ⊎_elim
        (λ (l : k < length xs).
        let e : get_or (xs ++ number ∷ []) k 0 ≡ get_or xs k 0 = get_or_append_left xs (number ∷ []) 0 k l in
        let q = is k l in
        let differs : get_or xs k 0 ≡ number → ⊥ = λ same. absent (contains_at xs k number l same) in
        subst (λ z. (z < length (set indexes number (length xs))) × (get_or (set indexes number (length xs)) z 0 ≡ k)) (sym e)
        (omega (arith, q.0, same_length), get_or-set_other indexes number (get_or xs k 0) (length xs) 0 differs ∙ q.1))
        (λ (g : length xs ≤ k).
        let s : length xs ≡ k = omega (arith, g, lt, long) in
        let e : get_or (xs ++ number ∷ []) k 0 ≡ number = get_or_push xs number 0 k s in
        subst (λ z. (z < length (set indexes number (length xs))) × (get_or (set indexes number (length xs)) z 0 ≡ k)) (sym e)
        (omega (arith, inside, same_length), get_or-set_same indexes number (length xs) 0 inside ∙ s))
        (cases_lt k (length xs))

-- no number
pub none_added : (indexes xs : List ℕ) → AreIndexed indexes xs → AddsAll indexes indexes xs xs []
none_added indexes xs is = record {
  many = refl;
  indexed = is;
  kept = λ k lt. (lt, refl);
  exact = λ n. (λ h. inl h, λ s. ⊎_elim (λ h. h) (λ (c : Contains [] n). absurd (omega (arith, c.1))) s);
}

-- what was added to none is one of the numbers
pub only_added : (was indexes xs new values : List ℕ) (n : ℕ) → xs ≡ [] → AddsAll was indexes xs new values → Contains new n → Contains values n
only_added was indexes xs new values n none all h =
    ⊎_elim (λ o. let c : Contains [] n = subst (λ z. Contains z n) none o in absurd (omega (arith, c.1))) (λ v. v) ((all.exact n).0 h)

-- one number more
pub all_more : (was indexes more old mid new values : List ℕ) (k v : ℕ) → k < length values → v ≡ get_or values k 0
    → AddsAll was indexes old mid (take k values) → Adds indexes more mid new v → AddsAll was more old new (take (k + 1) values)
all_more was indexes more old mid new values k v lt is front one = subst (λ z. AddsAll was more old new z) (sym (take_more values k 0 lt ∙ ap (λ z. take k values ++ z ∷ []) (sym is))) (record {
  many = one.many ∙ front.many;
  indexed = one.indexed;
  kept = λ i l. let r = front.kept i l in let q = one.kept i r.0 in (q.0, q.1 ∙ r.1);
  exact = λ n. (
    λ c. ⊎_elim
        (λ m. ⊎_elim (λ o. inl o) (λ t. inr (Contains-append_left (take k values) (v ∷ []) n t)) ((front.exact n).0 m))
        (λ (e : n ≡ v). inr (subst (λ z. Contains (take k values ++ v ∷ []) z) (sym e) (Contains-push (take k values) v)))
        ((one.exact n).0 c),
    λ s. ⊎_elim
        (λ o. (one.exact n).1 (inl ((front.exact n).1 (inl o))))
        (λ (t : Contains (take k values ++ v ∷ []) n). ⊎_elim (λ u. (one.exact n).1 (inl ((front.exact n).1 (inr u)))) (λ (e : v ≡ n). (one.exact n).1 (inr (sym e))) (Contains-push_cases (take k values) v n t))
        s,
  );
})

-- a set whose numbers have one index each has none twice
distinct : (indexes xs : List ℕ) → AreIndexed indexes xs → IsDistinct eqb xs
distinct indexes xs is = IsDistinct-from_apart eqb xs (λ i j d lt inside. differ (get_or xs i d) (get_or xs j d) (λ e. absurd (omega (arith, lt, apart i j d lt inside e))))
  where
    differ : (a b : ℕ) → (a ≡ b → ⊥) → eqb a b ≡ false
    differ a b n = grind (arith, n)

    apart : (i j d : ℕ) → i < j → j < length xs → get_or xs i d ≡ get_or xs j d → i ≡ j
    apart i j d lt inside e =
        let first : i < length xs = omega (arith, lt, inside) in
        let e0 : get_or xs i 0 ≡ get_or xs j 0 = get_or_default xs i 0 d first ∙ e ∙ get_or_default xs j d 0 inside in
        sym (is i first).1 ∙ ap (λ n. get_or indexes n 0) e0 ∙ (is j inside).1

-- so of those below a number there are at most so many
pub few : (indexes xs : List ℕ) (m : ℕ) → AreIndexed indexes xs → ((n : ℕ) → Contains xs n → n < m) → length xs ≤ m
few indexes xs m is within = length-le_from_distinct_below xs m (distinct indexes xs is) (λ q found. within q (Contains-from_any same q xs found))
  where
    same : (x y : ℕ) → eqb x y ≡ true → x ≡ y
    same x y e = grind (arith, e)

module _ (rows : List (List ℕ)) (old : List ℕ) where
  pub closing_start : ((n : ℕ) → Contains old n → n < length rows) → IsClosing rows old old 0
  closing_start within = record {
    within = within;
    has = λ n h. h;
    from = λ n h. inl h;
    finished = λ k l m n h. absurd (omega (arith, l));
    many = omega arith;
  }

  pub closing_step : (was indexes xs new : List ℕ) (index : ℕ) → IsUpward rows → index < length xs → IsClosing rows old xs index → AddsAll was indexes xs new (get_or rows (get_or xs index 0) []) →
      IsClosing rows old new (index + 1)
  closing_step was indexes xs new index up lt c all = record {
    within = λ n h. ⊎_elim (λ o. c.within n o) (λ (o : Contains (get_or rows at []) n). (up at n o).1) ((all.exact n).0 h);
    has = λ n h. (all.exact n).1 (inl (c.has n h));
    from = λ n h. ⊎_elim
        (λ o. ⊎_elim (λ s. inl s) (λ (p : (p : ℕ) × Contains xs p × Contains (get_or rows p []) n). inr (p.0, (all.exact p.0).1 (inl p.1), p.2)) (c.from n o))
        (λ o. inr (at, (all.exact at).1 (inl (contains_at xs index at lt refl)), o))
        ((all.exact n).0 h);
    finished = λ k l m n h.
        let s = all.kept k (omega (arith, l, lt)) in
        let h' = subst (λ z. Contains (get_or rows z []) n) s.1 h in
        ⊎_elim
        (λ (b : k < index). (all.exact n).1 (inl (c.finished k b (omega (arith, b, lt)) n h')))
        (λ (g : index ≤ k). let e : k ≡ index = omega (arith, g, l) in (all.exact n).1 (inr (subst (λ z. Contains (get_or rows (get_or xs z 0) []) n) e h')))
        (cases_lt k index);
    many = omega (arith, (all.kept index lt).0);
  }
    where
      at : ℕ
      at = get_or xs index 0

  pub closing_end : (indexes xs : List ℕ) (index : ℕ) → length xs ≤ index → AreIndexed indexes xs → IsClosing rows old xs index → IsReached rows indexes old xs
  closing_end indexes xs index le is c = record {
    indexed = is;
    within = c.within;
    exact = λ n. (
      c.from n,
      λ s. ⊎_elim
          (λ h. c.has n h)
          (λ (p : (p : ℕ) × Contains xs p × Contains (get_or rows p []) n).
          let q = at_of xs p.0 p.1 in
          c.finished q.0 (omega (arith, q.1, le)) q.1 n (subst (λ z. Contains (get_or rows z []) n) (sym q.2) p.2))
          s,
    );
  }

-- and in order it is the closed set
pub closed_by_sort : (rows : List (List ℕ)) (was indexes first none seeds old xs new : List ℕ) → none ≡ [] → AddsAll was first none old seeds
    → IsReached rows indexes old xs → IsPermutation xs new → IsSorted nat_cmp new → IsClosure rows seeds new
closed_by_sort rows was indexes first none seeds old xs new empty all reached moved ordered = record {
  rising = IsStrictlyIncreasing-from_distinct new (IsNonDecreasingBy-from_sort (λ n. n) new ordered) (IsDistinct-IsPermutation eqb flips xs new moved (distinct indexes xs reached.indexed));
  within = λ n h. reached.within n (back n h);
  exact = λ n. (
    λ h. ⊎_elim
        (λ o. inl (only_added was first none old seeds n empty all o))
        (λ (p : (p : ℕ) × Contains xs p × Contains (get_or rows p []) n). inr (p.0, to p.0 p.1, p.2))
        ((reached.exact n).0 (back n h)),
    λ s. to n ((reached.exact n).1 (⊎_elim
        (λ h. inl ((all.exact n).1 (inr h)))
        (λ (p : (p : ℕ) × Contains new p × Contains (get_or rows p []) n). inr (p.0, back p.0 p.1, p.2))
        s)),
  );
}
  where
    flips : (x y : ℕ) → eqb x y ≡ eqb y x
    flips x y = grind arith

    to : (n : ℕ) → Contains xs n → Contains new n
    to n h = Contains-permutation xs new n moved h

    back : (n : ℕ) → Contains new n → Contains xs n
    back n h = Contains-permutation new xs n (IsPermutation-sym xs new moved) h

-- the rows, as lists
pub row_at : (vs : List (Vec ℕ Global)) (k : ℕ) (v : Vec ℕ Global) → k < length vs → v ≡ get_or vs k v → v.items ≡ get_or (map (λ (v : Vec ℕ Global). v.items) vs) k []
row_at [] k v lt e = absurd (omega arith)
row_at (w ∷ vs) zero v lt e = ap (λ (z : Vec ℕ Global). z.items) e
row_at (w ∷ vs) (suc k) v lt e = row_at vs k v (omega arith) e
