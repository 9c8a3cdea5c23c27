-- Rows that are put together: in which order doesn't matter where a row of the key is there.
use Rattle.std.proofs.Common.{◌≡◌, ℕ, ◌+◌, ◌≤◌, min, List, [], ◌∷◌, ◌++◌, length, Bool, true, false, cond, ◌||◌, refl, sym, ap, ◌∙◌, append-nil, append_assoc, arith}
use Rattle.std.specs.List.{list_any}
use Rattle.std.specs.Str.{bytes_eq}
use Rattle.std.proofs.lemmas.List.{length-append}
use Rattle.aa_log.specs.Counted.{greatest, firsts, Counted, counted}
use Rattle.aa_log.proofs.Counting.{with_one, one-nil, one-cons, counted-more, eq_true}
use Rattle.aa_log.specs.Joined.{added, raised, with_row, joined, total}

or_left : (s t : Bool) → s ≡ true → (s || t) ≡ true
or_left true t e = refl
or_left false t e = absurd cc

or_right : (s t : Bool) → t ≡ true → (s || t) ≡ true
or_right true t e = refl
or_right false t e = e

or_none : (s t : Bool) → s ≡ false → (s || t) ≡ true → t ≡ true
or_none true t n e = absurd cc
or_none false t n e = e

module _ {A : Type 0} where
  -- an item by itself
  abbrev pub one_of : A → Counted A
  one_of a = record { item = a; count = 1 }

  one_is_row : (key : A → List ℕ) (cs : List (Counted A)) (a : A) → with_one key cs a ≡ with_row key cs (one_of a)
  unfolding with_row
  one_is_row key [] a = one-nil key a
  one_is_row key (c ∷ cs) a = one-cons key c cs a ∙ ap (λ (l : List (Counted A)). cond (bytes_eq (key c.item) (key a)) (raised c 1 ∷ cs) (c ∷ l)) (one_is_row key cs a)

  -- a row of that key is there
  Has : (A → List ℕ) → List ℕ → List (Counted A) → Type 0
  Has key k cs = list_any (λ (c : Counted A). bytes_eq (key c.item) k) cs ≡ true

  has_after : (key : A → List ℕ) (k : List ℕ) (cs : List (Counted A)) (r : Counted A) → Has key k cs → Has key k (with_row key cs r)
  unfolding with_row Has
  has_after key k [] r h = absurd cc
  has_after key k (c ∷ cs) r h =
      let test : Counted A → Bool = λ c. bytes_eq (key c.item) k in
      elim (bytes_eq (key c.item) (key r.item)) as (λ s. list_any test (cond s (raised c r.count ∷ cs) (c ∷ with_row key cs r)) ≡ true) [
        | true ↦ h
        | false ↦ (elim (test c) as (λ t. (t || list_any test cs) ≡ true → (t || list_any test (with_row key cs r)) ≡ true) [
          | true ↦ λ e. refl
          | false ↦ λ e. has_after key k cs r e
        ]) h
      ]

  has_self : (key : A → List ℕ) (cs : List (Counted A)) (d : Counted A) (k : List ℕ) → bytes_eq (key d.item) k ≡ true → Has key k (with_row key cs d)
  unfolding with_row Has
  has_self key [] d k e = or_left (bytes_eq (key d.item) k) false e
  has_self key (c ∷ cs) d k e =
      let test : Counted A → Bool = λ c. bytes_eq (key c.item) k in
      (elim (bytes_eq (key c.item) (key d.item)) as (λ s. bytes_eq (key c.item) (key d.item) ≡ s → list_any test (cond s (raised c d.count ∷ cs) (c ∷ with_row key cs d)) ≡ true) [
        | true ↦ λ same. or_left (test c) (list_any test cs) (ap (λ (l : List ℕ). bytes_eq l k) (eq_true (key c.item) (key d.item) same) ∙ e)
        | false ↦ λ other. or_right (test c) (list_any test (with_row key cs d)) (has_self key cs d k e)
      ]) refl

  raised_both : (c : Counted A) (m n : ℕ) → raised (raised c m) n ≡ raised (raised c n) m
  raised_both c m n = ap (λ (k : ℕ). record { item = c.item; count = k }) (let same : min (min (c.count + m) greatest + n) greatest ≡ min (min (c.count + n) greatest + m) greatest = omega arith in same)

  raised_sum : (c : Counted A) (m n : ℕ) → raised (raised c m) n ≡ raised c (added m n)
  raised_sum c m n = ap (λ (k : ℕ). record { item = c.item; count = k }) (let same : min (min (c.count + m) greatest + n) greatest ≡ min (c.count + min (m + n) greatest) greatest = omega arith in same)

  -- two rows in either order, where a row of the second's key is there
  swapped : (key : A → List ℕ) (cs : List (Counted A)) (r a : Counted A) → Has key (key a.item) cs → with_row key (with_row key cs r) a ≡ with_row key (with_row key cs a) r
  unfolding with_row Has
  swapped key [] r a h = absurd cc
  swapped key (c ∷ cs) r a h =
      let s : Bool = bytes_eq (key c.item) (key r.item) in
      let t : Bool = bytes_eq (key c.item) (key a.item) in
      (elim s as (λ x. s ≡ x → with_row key (cond x (raised c r.count ∷ cs) (c ∷ with_row key cs r)) a ≡ with_row key (cond t (raised c a.count ∷ cs) (c ∷ with_row key cs a)) r) [
        | true ↦ λ is_r. (elim t as (λ y. t ≡ y → cond y (raised (raised c r.count) a.count ∷ cs) (raised c r.count ∷ with_row key cs a) ≡ with_row key (cond y (raised c a.count ∷ cs) (c ∷ with_row key cs a)) r) [
          | true ↦ λ is_a. ap (λ (d : Counted A). d ∷ cs) (raised_both c r.count a.count) ∙ sym (ap (λ (b : Bool). cond b (raised (raised c a.count) r.count ∷ cs) (raised c a.count ∷ with_row key cs r)) is_r)
          | false ↦ λ is_a. sym (ap (λ (b : Bool). cond b (raised c r.count ∷ with_row key cs a) (c ∷ with_row key (with_row key cs a) r)) is_r)
        ]) refl
        | false ↦ λ is_r. (elim t as (λ y. t ≡ y → cond y (raised c a.count ∷ with_row key cs r) (c ∷ with_row key (with_row key cs r) a) ≡ with_row key (cond y (raised c a.count ∷ cs) (c ∷ with_row key cs a)) r) [
          | true ↦ λ is_a. sym (ap (λ (b : Bool). cond b (raised (raised c a.count) r.count ∷ cs) (raised c a.count ∷ with_row key cs r)) is_r)
          | false ↦ λ is_a. ap (λ (l : List (Counted A)). c ∷ l) (swapped key cs r a (or_none t (list_any (λ (d : Counted A). bytes_eq (key d.item) (key a.item)) cs) is_a h))
              ∙ sym (ap (λ (b : Bool). cond b (raised c r.count ∷ with_row key cs a) (c ∷ with_row key (with_row key cs a) r)) is_r)
        ]) refl
      ]) refl

  -- two rows of one key are one row with the sum of their counts
  twice : (key : A → List ℕ) (cs : List (Counted A)) (d a : Counted A) → bytes_eq (key d.item) (key a.item) ≡ true → with_row key (with_row key cs d) a ≡ with_row key cs (raised d a.count)
  unfolding with_row
  twice key [] d a e = ap (λ (b : Bool). cond b (raised d a.count ∷ []) (d ∷ a ∷ [])) e
  twice key (c ∷ cs) d a e =
      let s : Bool = bytes_eq (key c.item) (key d.item) in
      let along : bytes_eq (key c.item) (key a.item) ≡ s = ap (λ (l : List ℕ). bytes_eq (key c.item) l) (sym (eq_true (key d.item) (key a.item) e)) in
      (elim s as (λ x. s ≡ x → with_row key (cond x (raised c d.count ∷ cs) (c ∷ with_row key cs d)) a ≡ cond x (raised c (added d.count a.count) ∷ cs) (c ∷ with_row key cs (raised d a.count))) [
        | true ↦ λ is. ap (λ (b : Bool). cond b (raised (raised c d.count) a.count ∷ cs) (raised c d.count ∷ with_row key cs a)) (along ∙ is) ∙ ap (λ (x : Counted A). x ∷ cs) (raised_sum c d.count a.count)
        | false ↦ λ is. ap (λ (b : Bool). cond b (raised c a.count ∷ with_row key cs d) (c ∷ with_row key (with_row key cs d) a)) (along ∙ is) ∙ ap (λ (l : List (Counted A)). c ∷ l) (twice key cs d a e)
      ]) refl

  behind : (key : A → List ℕ) (cs rs : List (Counted A)) (a : Counted A) → Has key (key a.item) cs → joined key (with_row key cs a) rs ≡ with_row key (joined key cs rs) a
  unfolding joined
  behind key cs [] a h = refl
  behind key cs (r ∷ rs) a h = ap (λ (l : List (Counted A)). joined key l rs) (sym (swapped key cs r a h)) ∙ behind key (with_row key cs r) rs a (has_after key (key a.item) cs r h)

  -- rows with one more that stands among them
  pub joined_row : (key : A → List ℕ) (cs ds : List (Counted A)) (a : Counted A) → joined key cs (with_row key ds a) ≡ with_row key (joined key cs ds) a
  unfolding joined with_row
  joined_row key cs [] a = refl
  joined_row key cs (d ∷ ds) a =
      let t : Bool = bytes_eq (key d.item) (key a.item) in
      (elim t as (λ y. t ≡ y → joined key cs (cond y (raised d a.count ∷ ds) (d ∷ with_row key ds a)) ≡ with_row key (joined key (with_row key cs d) ds) a) [
        | true ↦ λ is. ap (λ (l : List (Counted A)). joined key l ds) (sym (twice key cs d a is)) ∙ behind key (with_row key cs d) ds a (has_self key cs d (key a.item) is)
        | false ↦ λ is. joined_row key (with_row key cs d) ds a
      ]) refl

  -- rows with one more behind them
  pub joined_push : (key : A → List ℕ) (cs rs : List (Counted A)) (r : Counted A) → joined key cs (rs ++ r ∷ []) ≡ with_row key (joined key cs rs) r
  unfolding joined
  joined_push key cs [] r = refl
  joined_push key cs (x ∷ rs) r = joined_push key (with_row key cs x) rs r

  -- rows, and then others behind them
  pub joined_both : (key : A → List ℕ) (cs xs ys : List (Counted A)) → joined key cs (xs ++ ys) ≡ joined key (joined key cs xs) ys
  unfolding joined
  joined_both key cs [] ys = refl
  joined_both key cs (x ∷ xs) ys = joined_both key (with_row key cs x) xs ys

  longer_row : (key : A → List ℕ) (cs : List (Counted A)) (r : Counted A) → length cs ≤ length (with_row key cs r)
  unfolding with_row
  longer_row key [] r = omega arith
  longer_row key (c ∷ cs) r =
      elim (bytes_eq (key c.item) (key r.item)) as (λ s. length (c ∷ cs) ≤ length (cond s (raised c r.count ∷ cs) (c ∷ with_row key cs r))) [
        | true ↦ omega arith
        | false ↦ omega (arith, longer_row key cs r)
      ]

  -- no row is lost
  pub longer : (key : A → List ℕ) (cs rs : List (Counted A)) → length cs ≤ length (joined key cs rs)
  unfolding joined
  longer key cs [] = omega arith
  longer key cs (r ∷ rs) = omega (arith, longer_row key cs r, longer key (with_row key cs r) rs)

  counted_one : (key : A → List ℕ) (xs : List A) (a : A) → counted key (xs ++ a ∷ []) ≡ with_row key (counted key xs) (one_of a)
  counted_one key xs a = counted-more key xs a ∙ one_is_row key (counted key xs) a

  counted_from : (key : A → List ℕ) (xs front rest : List A) → joined key (counted key xs) (counted key front) ≡ counted key (xs ++ front)
      → joined key (counted key xs) (counted key (front ++ rest)) ≡ counted key (xs ++ (front ++ rest))
  counted_from key xs front [] e = ap (λ (l : List A). joined key (counted key xs) (counted key l)) (append-nil front) ∙ e ∙ ap (λ (l : List A). counted key (xs ++ l)) (sym (append-nil front))
  counted_from key xs front (a ∷ rest) e =
      let longer : List A = front ++ a ∷ [] in
      let step : joined key (counted key xs) (counted key longer) ≡ counted key (xs ++ longer) =
      ap (joined key (counted key xs)) (counted_one key front a) ∙ joined_row key (counted key xs) (counted key front) (one_of a)
      ∙ ap (λ (l : List (Counted A)). with_row key l (one_of a)) e ∙ sym (counted_one key (xs ++ front) a) ∙ ap (counted key) (append_assoc xs front (a ∷ [])) in
      let whole : longer ++ rest ≡ front ++ a ∷ rest = append_assoc front (a ∷ []) rest in
      ap (λ (l : List A). joined key (counted key xs) (counted key l)) (sym whole) ∙ counted_from key xs longer rest step ∙ ap (λ (l : List A). counted key (xs ++ l)) whole

  counted_none : (key : A → List ℕ) (xs : List A) → joined key (counted key xs) (counted key []) ≡ counted key (xs ++ [])
  unfolding joined firsts
  counted_none key xs = ap (counted key) (sym (append-nil xs))

  -- what is counted of two lists is what is counted of the one behind the other
  pub counted_both : (key : A → List ℕ) (xs ys : List A) → joined key (counted key xs) (counted key ys) ≡ counted key (xs ++ ys)
  counted_both key xs ys = counted_from key xs [] ys (counted_none key xs)

  -- how often the items of rows come, with a row more
  pub total_row : (key : A → List ℕ) (cs : List (Counted A)) (r : Counted A) → total (with_row key cs r) ≡ added (total cs) r.count
  unfolding with_row total
  total_row key [] r = (let same : min (r.count + 0) greatest ≡ min (0 + r.count) greatest = omega arith in same)
  total_row key (c ∷ cs) r =
      elim (bytes_eq (key c.item) (key r.item)) as (λ s. total (cond s (raised c r.count ∷ cs) (c ∷ with_row key cs r)) ≡ added (added c.count (total cs)) r.count) [
        | true ↦ (let same : min (min (c.count + r.count) greatest + total cs) greatest ≡ min (min (c.count + total cs) greatest + r.count) greatest = omega arith in same)
        | false ↦ ap (λ (n : ℕ). min (c.count + n) greatest) (total_row key cs r)
            ∙ (let same : min (c.count + min (total cs + r.count) greatest) greatest ≡ min
            (min (c.count + total cs) greatest + r.count) greatest = omega arith in same)
      ]

  total_from : (key : A → List ℕ) (front rest : List A) → total (counted key front) ≡ min (length front) greatest → total (counted key (front ++ rest)) ≡ min (length (front ++ rest)) greatest
  total_from key front [] e = ap (λ (l : List A). total (counted key l)) (append-nil front) ∙ e ∙ ap (λ (l : List A). min (length l) greatest) (sym (append-nil front))
  total_from key front (a ∷ rest) e =
      let longer : List A = front ++ a ∷ [] in
      let whole : longer ++ rest ≡ front ++ a ∷ rest = append_assoc front (a ∷ []) rest in
      let one : min (min (length front) greatest + 1) greatest ≡ min (length longer) greatest = omega (arith, length-append front (a ∷ [])) in
      let step : total (counted key longer) ≡ min (length longer) greatest = ap total (counted_one key front a) ∙ total_row key (counted key front) (one_of a) ∙ ap (λ (n : ℕ). min (n + 1) greatest) e ∙ one in
      ap (λ (l : List A). total (counted key l)) (sym whole) ∙ total_from key longer rest step ∙ ap (λ (l : List A). min (length l) greatest) whole

  total_none : (key : A → List ℕ) (none : List A) → none ≡ [] → total (counted key none) ≡ min (length none) greatest
  unfolding total firsts
  total_none key [] e = refl
  total_none key (x ∷ xs) e = absurd (cc)

  -- how often items come is how many there are
  pub counted_total : (key : A → List ℕ) (xs : List A) → total (counted key xs) ≡ min (length xs) greatest
  counted_total key xs = total_from key [] xs (total_none key [] refl)
