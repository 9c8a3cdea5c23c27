-- What lists have, and where a list of numbers ends.
use Rattle.std.proofs.Common.{◌≡◌, ℕ, zero, suc, ◌<◌, List, [], ◌∷◌, ◌++◌, map, length, take, get_or, Bool, true, false, cond}
use Rattle.std.proofs.Common.{Option, Some, None, refl, sym, ap, subst, ◌∙◌, Contains, arith, ⊎_elim, inl, inr, true≢false}
use Rattle.std.specs.Prelude.{◌⊎◌, filter}
use Rattle.std.specs.List.{slice_get, range_with_len}
use Rattle.std.proofs.lemmas.List.FromFn.{length-range_with_len, get_or-range_with_len}

pub in_head : {X : Type 0} (x : X) (xs : List X) → Contains (x ∷ xs) x
in_head x xs = (0, omega arith, refl)

pub in_tail : {X : Type 0} (x y : X) (xs : List X) → Contains xs y → Contains (x ∷ xs) y
in_tail x y xs c = (suc c.0, omega (arith, c.1), c.2)

pub in_cases : {X : Type 0} (x y : X) (xs : List X) → Contains (x ∷ xs) y → (x ≡ y) ⊎ Contains xs y
in_cases x y xs c = at c.0 c.1 c.2
  where
    at : (k : ℕ) → k < length (x ∷ xs) → get_or (x ∷ xs) k y ≡ y → (x ≡ y) ⊎ Contains xs y
    at zero lt e = inl e
    at (suc k) lt e = inr (k, omega (arith, lt), e)

pub not_in : {X : Type 0} (y : X) → Contains [] y → ⊥
not_in y c = omega (arith, c.1)

-- what is made of each element
pub in_map : {X Y : Type 0} (f : X → Y) (xs : List X) (x : X) → Contains xs x → Contains (map f xs) (f x)
in_map f [] x c = absurd (not_in x c)
in_map {X} {Y} f (y ∷ ys) x c =
    ⊎_elim (λ (e : y ≡ x). let P : X → Type 0 = λ z. Contains (f y ∷ map f ys) (f z) in subst P e (in_head (f y) (map f ys)))
    (λ (d : Contains ys x). in_tail (f y) (f x) (map f ys) (in_map f ys x d)) (in_cases y x ys c)

pub map_in : {X Y : Type 0} (f : X → Y) (xs : List X) (y : Y) → Contains (map f xs) y → (x : X) × Contains xs x × (f x ≡ y)
map_in f [] y c = absurd (not_in y c)
map_in {X} {Y} f (x ∷ xs) y c =
    ⊎_elim (λ (e : f x ≡ y). (x, in_head x xs, e))
    (λ (d : Contains (map f xs) y). let q = map_in f xs y d in (q.0, in_tail x q.0 xs q.1, q.2)) (in_cases (f x) y (map f xs) c)

-- what is made of the first elements
pub take_in : {X Y : Type 0} (f : X → Y) (xs : List X) (n : ℕ) (y : Y) → Contains (take n (map f xs)) y
    → (k : ℕ) × (k < n) × ((x : X) × (slice_get xs k ≡ Some x) × (f x ≡ y))
take_in f xs zero y c = absurd (not_in y c)
take_in f [] (suc n) y c = absurd (not_in y c)
take_in {X} {Y} f (x ∷ xs) (suc n) y c =
    ⊎_elim (λ (e : f x ≡ y). (0, omega arith, (x, refl, e)))
    (λ (d : Contains (take n (map f xs)) y). let q = take_in f xs n y d in (suc q.0, omega (arith, q.1), q.2)) (in_cases (f x) y (take n (map f xs)) c)

some_same : {X : Type 0} (x y : X) → Some x ≡ Some y → x ≡ y
some_same {X} x y e = ap read e
  where
    read : Option X → X
    read None = x
    read (Some z) = z

pub in_take : {X Y : Type 0} (f : X → Y) (xs : List X) (n k : ℕ) (x : X) → k < n → slice_get xs k ≡ Some x → Contains (take n (map f xs)) (f x)
in_take f [] n k x lt e = absurd cc
in_take f (y ∷ ys) zero k x lt e = absurd (omega (arith, lt))
in_take {X} f (y ∷ ys) (suc n) zero x lt e =
    let P : X → Type 0 = λ z. Contains (f y ∷ take n (map f ys)) (f z) in subst P (some_same y x e) (in_head (f y) (take n (map f ys)))
in_take f (y ∷ ys) (suc n) (suc k) x lt e = in_tail (f y) (f x) (take n (map f ys)) (in_take f ys n k x (omega (arith, lt)) e)

-- what passes a test
pub in_filter : {X : Type 0} (p : X → Bool) (xs : List X) (x : X) → Contains xs x → p x ≡ true → Contains (filter p xs) x
in_filter p [] x c e = absurd (not_in x c)
in_filter {X} p (y ∷ ys) x c e =
    ⊎_elim (λ (same : y ≡ x). here (p y) (ap p same ∙ e) same)
    (λ (d : Contains ys x). later (p y) (in_filter p ys x d e)) (in_cases y x ys c)
  where
    here : (b : Bool) → b ≡ true → y ≡ x → Contains (cond b (y ∷ filter p ys) (filter p ys)) x
    here true t same = subst (λ (z : X). Contains (y ∷ filter p ys) z) same (in_head y (filter p ys))
    here false t same = absurd (true≢false (sym t))

    later : (b : Bool) → Contains (filter p ys) x → Contains (cond b (y ∷ filter p ys) (filter p ys)) x
    later true d = in_tail y x (filter p ys) d
    later false d = d

pub filter_in : {X : Type 0} (p : X → Bool) (xs : List X) (x : X) → Contains (filter p xs) x → Contains xs x × (p x ≡ true)
filter_in p [] x c = absurd (not_in x c)
filter_in {X} p (y ∷ ys) x c = at (λ h. filter_in p ys x h) (p y) refl c
  where
    at : (Contains (filter p ys) x → Contains ys x × (p x ≡ true)) → (b : Bool) → p y ≡ b
        → Contains (cond b (y ∷ filter p ys) (filter p ys)) x → Contains (y ∷ ys) x × (p x ≡ true)
    at later true e d =
        ⊎_elim (λ (same : y ≡ x). (subst (λ (z : X). Contains (y ∷ ys) z) same (in_head y ys), ap p (sym same) ∙ e))
        (λ (h : Contains (filter p ys) x). let r = later h in (in_tail y x ys r.0, r.1)) (in_cases y x (filter p ys) d)
    at later false e d = let r = later d in (in_tail y x ys r.0, r.1)

-- the numbers below n
pub in_range : (n k : ℕ) → k < n → Contains (range_with_len 0 n) k
in_range n k lt = (k, omega (arith, lt, length-range_with_len 0 n), omega (arith, get_or-range_with_len 0 n k k lt))

pub range_in : (n k : ℕ) → Contains (range_with_len 0 n) k → k < n
range_in n k c =
    let lt : c.0 < n = omega (arith, c.1, length-range_with_len 0 n) in
    omega (arith, c.2, lt, get_or-range_with_len 0 n c.0 k lt)

-- the first number, and the others
abbrev pub first_of : List ℕ → ℕ
first_of [] = 0
first_of (n ∷ ns) = n

abbrev pub rest_of : List ℕ → List ℕ
rest_of [] = []
rest_of (n ∷ ns) = ns

-- none of the numbers is an end
abbrev pub HasNoEnd : List ℕ → Type 0
HasNoEnd [] = Unit {0}
HasNoEnd (n ∷ ns) = (0 < n) × HasNoEnd ns

pub no_end_append : (xs ys : List ℕ) → HasNoEnd xs → HasNoEnd ys → HasNoEnd (xs ++ ys)
no_end_append [] ys a b = b
no_end_append (x ∷ xs) ys a b = (a.0, no_end_append xs ys a.1 b)

-- up to the first end
pub split_at_end : (xs ys s t : List ℕ) → HasNoEnd xs → HasNoEnd ys → xs ++ 0 ∷ s ≡ ys ++ 0 ∷ t → (xs ≡ ys) × (s ≡ t)
split_at_end [] [] s t a b e = (refl, ap rest_of e)
split_at_end [] (y ∷ ys) s t a b e = absurd (omega (arith, ap first_of e, b.0))
split_at_end (x ∷ xs) [] s t a b e = absurd (omega (arith, ap first_of e, a.0))
split_at_end (x ∷ xs) (y ∷ ys) s t a b e =
    let r = split_at_end xs ys s t a.1 b.1 (ap rest_of e) in
    (ap (λ (n : ℕ). n ∷ xs) (ap first_of e) ∙ ap (λ (ns : List ℕ). y ∷ ns) r.0, r.1)

-- lists of one length
pub split_at_length : (xs ys s t : List ℕ) → length xs ≡ length ys → xs ++ s ≡ ys ++ t → (xs ≡ ys) × (s ≡ t)
split_at_length [] [] s t h e = (refl, e)
split_at_length [] (y ∷ ys) s t h e = absurd (omega (arith, h))
split_at_length (x ∷ xs) [] s t h e = absurd (omega (arith, h))
split_at_length (x ∷ xs) (y ∷ ys) s t h e =
    let r = split_at_length xs ys s t (omega (arith, h)) (ap rest_of e) in
    (ap (λ (n : ℕ). n ∷ xs) (ap first_of e) ∙ ap (λ (ns : List ℕ). y ∷ ns) r.0, r.1)
