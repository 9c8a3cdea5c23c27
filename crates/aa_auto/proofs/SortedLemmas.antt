-- Rising numbers, with one more.
use Rattle.std.proofs.Common.{Bool, true, false, IsTrue, true≢false, ◌↔◌, Contains, ◌≡◌, ◌≢◌, ℕ, ◌+◌, ◌-◌, ◌≤◌, ◌<◌}
use Rattle.std.proofs.Common.{◌⊎◌, List, [], ◌∷◌, ◌++◌, All, length, get_or, suc, zero, refl, sym, ap, ◌∙◌, subst, inl, inr, ⊎_elim}
use Rattle.std.proofs.Common.{arith, ap₂}
use Rattle.std.specs.List.{insert}
use Rattle.std.specs.List.Sorted.{IsStrictlyIncreasing}
use Rattle.std.proofs.lemmas.List.{get_or_default, get_or_append_left, get_or_push, length_push, take_all, drop_all}
use Rattle.std.proofs.lemmas.List.Edits.{length-insert, get_or-insert_below, get_or-insert_at, get_or-insert_above}
use Rattle.std.proofs.lemmas.Bool.{cases_lt}
use Rattle.aa_auto.specs.Sorted.{Inserts}

-- a smaller index has a smaller number
pub rises : (xs : List ℕ) → IsStrictlyIncreasing xs → (i j : ℕ) → i < j → j < length xs → get_or xs i 0 < get_or xs j 0
rises xs up i zero lt within = absurd (omega arith)
rises xs up i (suc j) lt within =
    let e : j + 1 ≡ suc j = omega arith in
    let last : get_or xs j 0 < get_or xs (suc j) 0 = subst (λ n. get_or xs j 0 < get_or xs n 0) e (up j (omega arith)) in
    ⊎_elim
    (λ (l : i < j). omega (arith, rises xs up i j l (omega arith), last))
    (λ (g : j ≤ i). let s : j ≡ i = omega arith in subst (λ n. get_or xs n 0 < get_or xs (suc j) 0) s last)
    (cases_lt i j)

-- a number is below the value where one behind it is, and at least the value where one before it is
pub below_to : (xs : List ℕ) → IsStrictlyIncreasing xs → (m v : ℕ) → m < length xs → get_or xs m 0 < v → (k : ℕ) → k < m + 1 → get_or xs k 0 < v
below_to xs up m v lt less k le =
    ⊎_elim
    (λ (l : k < m). omega (arith, rises xs up k m l lt, less))
    (λ (g : m ≤ k). let e : m ≡ k = omega (arith, le, g) in subst (λ i. get_or xs i 0 < v) e less)
    (cases_lt k m)

pub above_from : (xs : List ℕ) → IsStrictlyIncreasing xs → (m v : ℕ) → v ≤ get_or xs m 0 → (k : ℕ) → m ≤ k → k < length xs → v ≤ get_or xs k 0
above_from xs up m v le k ge lt =
    ⊎_elim
    (λ (l : m < k). omega (arith, rises xs up m k l lt, le))
    (λ (g : k ≤ m). let e : m ≡ k = omega (arith, ge, g) in subst (λ i. v ≤ get_or xs i 0) e le)
    (cases_lt m k)

pub contains_at : (xs : List ℕ) (k n : ℕ) → k < length xs → get_or xs k 0 ≡ n → Contains xs n
contains_at xs k n lt e = (k, lt, get_or_default xs k n 0 lt ∙ e)

pub at_of : (xs : List ℕ) (n : ℕ) → Contains xs n → (k : ℕ) × (k < length xs) × (get_or xs k 0 ≡ n)
at_of xs n c = (c.0, c.1, get_or_default xs c.0 0 n c.1 ∙ c.2)

-- one more number, above the others
pub rising_push : (xs : List ℕ) (v : ℕ) → IsStrictlyIncreasing xs → All (λ x. x < v) xs → IsStrictlyIncreasing (xs ++ v ∷ [])
rising_push xs v up below k lt =
    let many : length (xs ++ v ∷ []) ≡ length xs + 1 = length_push xs v in
    let first : get_or (xs ++ v ∷ []) k 0 ≡ get_or xs k 0 = get_or_append_left xs (v ∷ []) 0 k (omega (arith, many)) in
    ⊎_elim
    (λ (l : k + 1 < length xs). omega (arith, first, get_or_append_left xs (v ∷ []) 0 (k + 1) l, up k l))
    (λ (g : length xs ≤ k + 1).
    let e : length xs ≡ k + 1 = omega (arith, many) in
    omega (arith, first, get_or_push xs v 0 (k + 1) e, below k 0 (omega arith)))
    (cases_lt (k + 1) (length xs))

module _ (xs : List ℕ) (at v : ℕ) (up : IsStrictlyIncreasing xs) (le : at ≤ length xs) (below : (k : ℕ) → k < at → get_or xs k 0 < v)
    (above : (k : ℕ) → at ≤ k → k < length xs → v < get_or xs k 0) where
  long : length (insert xs at v) ≡ length xs + 1
  long = length-insert xs at v le

  before : (k : ℕ) → k < at → get_or (insert xs at v) k 0 ≡ get_or xs k 0
  before k lt = get_or-insert_below xs at v 0 k lt le

  here : get_or (insert xs at v) at 0 ≡ v
  here = get_or-insert_at xs at v 0 le

  behind : (k : ℕ) → at ≤ k → get_or (insert xs at v) (k + 1) 0 ≡ get_or xs k 0
  behind k ge = get_or-insert_above xs at v 0 k ge le

  rising : IsStrictlyIncreasing (insert xs at v)
  rising k lt =
      ⊎_elim
      (λ (a : k + 1 < at). omega (arith, before k (omega arith), before (k + 1) a, up k (omega (arith, long))))
      (λ (b : at ≤ k + 1).
      ⊎_elim
      (λ (c : k < at). let e : at ≡ k + 1 = omega arith in
      omega (arith, before k c, below k c, subst (λ n. get_or (insert xs at v) n 0 ≡ v) e here))
      (λ (d : at ≤ k).
      ⊎_elim
      (λ (f : at < k). let j : ℕ = k - 1 in let e : j + 1 ≡ k = omega arith in
      omega (
        arith,
        subst (λ n. get_or (insert xs at v) n 0 ≡ get_or xs j 0) e (behind j (omega arith)),
        behind k d,
        subst (λ n. get_or xs j 0 < get_or xs n 0) e (up j (omega (arith, long))),
      ))
      (λ (f : k ≤ at). let e : at ≡ k = omega arith in
      omega (arith, subst (λ n. get_or (insert xs at v) n 0 ≡ v) e here, behind k d, above k d (omega (arith, long))))
      (cases_lt at k))
      (cases_lt k at))
      (cases_lt (k + 1) at)

  exact_to : (n : ℕ) → Contains (insert xs at v) n → Contains xs n ⊎ (n ≡ v)
  exact_to n c =
      let q = at_of (insert xs at v) n c in
      ⊎_elim
      (λ (a : q.0 < at). inl (contains_at xs q.0 n (omega arith) (sym (before q.0 a) ∙ q.2)))
      (λ (b : at ≤ q.0).
      ⊎_elim
      (λ (f : at < q.0). let j : ℕ = q.0 - 1 in let e : j + 1 ≡ q.0 = omega arith in
      inl (contains_at xs j n (omega (arith, q.1, long)) (sym (subst (λ i. get_or (insert xs at v) i 0 ≡ get_or xs j 0) e (behind j (omega arith))) ∙ q.2)))
      (λ (f : q.0 ≤ at). let e : at ≡ q.0 = omega arith in inr (sym q.2 ∙ subst (λ i. get_or (insert xs at v) i 0 ≡ v) e here))
      (cases_lt at q.0))
      (cases_lt q.0 at)

  exact_from : (n : ℕ) → Contains xs n ⊎ (n ≡ v) → Contains (insert xs at v) n
  exact_from n s =
      ⊎_elim
      (λ c. let q = at_of xs n c in
      ⊎_elim
      (λ (a : q.0 < at). contains_at (insert xs at v) q.0 n (omega (arith, q.1, long)) (before q.0 a ∙ q.2))
      (λ (b : at ≤ q.0). contains_at (insert xs at v) (q.0 + 1) n (omega (arith, q.1, long)) (behind q.0 b ∙ q.2))
      (cases_lt q.0 at))
      (λ (e : n ≡ v). contains_at (insert xs at v) at n (omega (arith, long)) (here ∙ sym e))
      s

  pub insert_new : Inserts xs (insert xs at v) v
  insert_new = record {
    rising = rising;
    exact = λ n. (exact_to n, exact_from n);
    kept = λ k lt b. let a : k < at = ⊎_elim (λ (l : k < at). l) (λ (g : at ≤ k). absurd (omega (arith, above k g lt))) (cases_lt k at) in
        (omega (arith, long), before k a);
  }

-- behind all others
pub insert_end : (xs : List ℕ) (at v : ℕ) → length xs ≤ at → insert xs at v ≡ xs ++ v ∷ []
insert_end xs at v ge = ap₂ (λ p q. p ++ v ∷ q) (take_all at xs ge) (drop_all at xs ge)

pub insert_made : {xs ys zs : List ℕ} (at v : ℕ) → ys ≡ xs → IsStrictlyIncreasing xs → at ≤ length ys → ((k : ℕ) → k < at → get_or ys k 0 < v) →
    ((k : ℕ) → at ≤ k → k < length ys → v ≤ get_or ys k 0) → (at < length xs → get_or xs at 0 ≢ v) → zs ≡ insert xs at v → Inserts xs zs v
insert_made {xs} {ys} {zs} at v same up le below above differs made =
    subst (λ z. Inserts xs z v) (sym made)
    (insert_new xs at v up (omega (arith, ap length same, le))
    (λ k lt. subst (λ z. get_or z k 0 < v) same (below k lt))
    (λ k ge lt.
    let at_most : v ≤ get_or xs k 0 = subst (λ z. v ≤ get_or z k 0) same (above k ge (omega (arith, ap length same, lt))) in
    ⊎_elim
    (λ (l : at < k). let first : v ≤ get_or xs at 0 = subst (λ z. v ≤ get_or z at 0) same (above at (omega arith) (omega (arith, ap length same, lt))) in
    omega (arith, rises xs up at k l lt, first))
    (λ (g : k ≤ at). let e : at ≡ k = omega arith in
    ⊎_elim (λ (b : v < get_or xs k 0). b)
    (λ (h : get_or xs k 0 ≤ v). absurd (differs (omega (arith, lt)) (subst (λ n. get_or xs n 0 ≡ v) (sym e) (omega (arith, at_most, h)))))
    (cases_lt v (get_or xs k 0)))
    (cases_lt at k)))

pub first_least : (z : ℕ) (zs : List ℕ) (n : ℕ) → IsStrictlyIncreasing (z ∷ zs) → Contains (z ∷ zs) n → (z ≡ n) ⊎ ((z < n) × Contains zs n)
first_least z zs n up c = at (at_of (z ∷ zs) n c).0 (at_of (z ∷ zs) n c).1 (at_of (z ∷ zs) n c).2
  where
    at : (k : ℕ) → k < length (z ∷ zs) → get_or (z ∷ zs) k 0 ≡ n → (z ≡ n) ⊎ ((z < n) × Contains zs n)
    at zero lt e = inl e
    at (suc k) lt e = inr (omega (arith, rises (z ∷ zs) up 0 (suc k) (omega arith) lt, e), contains_at zs k n (omega (arith, lt)) e)

pub rising_tail : (z : ℕ) (zs : List ℕ) → IsStrictlyIncreasing (z ∷ zs) → IsStrictlyIncreasing zs
rising_tail z zs up k lt = let e : suc k + 1 ≡ suc (k + 1) = omega arith in subst (λ n. get_or (z ∷ zs) (suc k) 0 < get_or (z ∷ zs) n 0) e (up (suc k) (omega (arith, lt)))

pub behind_first : (z : ℕ) (zs : List ℕ) (n : ℕ) → Contains zs n → Contains (z ∷ zs) n
behind_first z zs n c = let q = at_of zs n c in contains_at (z ∷ zs) (suc q.0) n (omega (arith, q.1)) q.2

-- rising numbers with the same elements
pub same_rising : (xs ys : List ℕ) → IsStrictlyIncreasing xs → IsStrictlyIncreasing ys → ((n : ℕ) → Contains xs n → Contains ys n) → ((n : ℕ) → Contains ys n → Contains xs n) → xs ≡ ys
same_rising [] [] up down f g = refl
same_rising [] (y ∷ ys) up down f g = absurd (omega (arith, (g y (contains_at (y ∷ ys) 0 y (omega arith) refl)).1))
same_rising (x ∷ xs) [] up down f g = absurd (omega (arith, (f x (contains_at (x ∷ xs) 0 x (omega arith) refl)).1))
same_rising (x ∷ xs) (y ∷ ys) up down f g =
    let a = first_least y ys x down (f x (contains_at (x ∷ xs) 0 x (omega arith) refl)) in
    let b = first_least x xs y up (g y (contains_at (y ∷ ys) 0 y (omega arith) refl)) in
    let same : x ≡ y = ⊎_elim (λ (e : y ≡ x). sym e) (λ (l : (y < x) × Contains ys x). ⊎_elim (λ (e : x ≡ y). e) (λ (m : (x < y) × Contains xs y). absurd (omega (arith, l.0, m.0))) b) a in
    let tails : xs ≡ ys = same_rising xs ys (rising_tail x xs up) (rising_tail y ys down)
    (λ n c. ⊎_elim (λ (e : y ≡ n). absurd (omega (arith, e, same, above x xs n up c))) (λ (l : (y < n) × Contains ys n). l.1) (first_least y ys n down (f n (behind_first x xs n c))))
    (λ n c. ⊎_elim (λ (e : x ≡ n). absurd (omega (arith, e, same, above y ys n down c))) (λ (l : (x < n) × Contains xs n). l.1) (first_least x xs n up (g n (behind_first y ys n c)))) in
    cc (same, tails)
  where
    above : (z : ℕ) (zs : List ℕ) (n : ℕ) → IsStrictlyIncreasing (z ∷ zs) → Contains zs n → z < n
    above z zs n rise c = let q = at_of zs n c in omega (arith, rises (z ∷ zs) rise 0 (suc q.0) (omega arith) (omega (arith, q.1)), q.2)

-- what a test at an index has told
pub not_at : (ys xs : List ℕ) (at v : ℕ) (t : Bool) → ys ≡ xs → (IsTrue t ↔ ((at < length ys) × (get_or ys at 0 ≡ v))) → t ≡ false → at < length xs → get_or xs at 0 ≢ v
not_at ys xs at v t same is no' lt e =
    true≢false (sym (is.1 (subst (λ z. at < length z) (sym same) lt, subst (λ z. get_or z at 0 ≡ v) (sym same) e)) ∙ no')

pub there_at : (ys xs : List ℕ) (at v : ℕ) (t : Bool) → ys ≡ xs → (IsTrue t ↔ ((at < length ys) × (get_or ys at 0 ≡ v))) → t ≡ true → Contains xs v
there_at ys xs at v t same is held =
    let q = is.0 held in
    contains_at xs at v (subst (λ z. at < length z) same q.0) (subst (λ z. get_or z at 0 ≡ v) same q.1)
