-- An item more in a list: what it is counted to.
use Rattle.std.proofs.Common.{◌≡◌, ℕ, zero, suc, ◌+◌, ◌<◌, ◌≤◌, min, nat_lt, List, [], ◌∷◌, ◌++◌, length, map, set, get_or}
use Rattle.std.proofs.Common.{Bool, true, false, cond, not, ◌||◌, ◌&&◌, Some, None, refl, sym, ap, subst, ◌∙◌, append-nil, arith, inl, inr}
use Rattle.std.specs.Prelude.{count_by}
use Rattle.std.specs.List.{filter, list_any, position, position_or_len}
use Rattle.std.specs.Str.{bytes_eq}
use Rattle.std.proofs.lemmas.List.{map-append, length-map}
use Rattle.std.proofs.lemmas.List.Elements.{filter-append}
use Rattle.std.proofs.lemmas.List.Sums.{sum_by-cons, sum_by_push, fails_before_first}
use Rattle.std.proofs.lemmas.List.Quantifiers.{position-Some}
use Rattle.std.proofs.lemmas.Map.Views.{any-filter_same}
use Rattle.std.proofs.lemmas.Slice.Eq.{bytes_eq-Decides}
use Rattle.std.proofs.lemmas.Bool.{cases_Bool, ltb-false}
use Rattle.aa_log.specs.Counted.{greatest, firsts, times, Counted, counted}

pub eq_true : (x y : List ℕ) → bytes_eq x y ≡ true → x ≡ y
eq_true x y e = (bytes_eq-Decides x y).0 e

eq_self : (x : List ℕ) → bytes_eq x x ≡ true
eq_self x = (bytes_eq-Decides x x).1 refl

pub eq_sym : (x y : List ℕ) → bytes_eq x y ≡ bytes_eq y x
eq_sym x y = elim (cases_Bool (bytes_eq x y)) [
  | inl is ↦ is ∙ sym ((bytes_eq-Decides y x).1 (sym (eq_true x y is)))
  | inr isnt ↦ elim (cases_Bool (bytes_eq y x)) [
    | inl is ↦ (let here : bytes_eq x y ≡ true = (bytes_eq-Decides x y).1 (sym (eq_true y x is)) in absurd (cc))
    | inr none ↦ isnt ∙ sym none
  ]
]

-- no element passes
neither : (s t : Bool) → (s || t) ≡ false → (s ≡ false) × (t ≡ false)
neither true t e = absurd (cc)
neither false t e = (refl, e)

or_rest : (s t : Bool) → (s || (not s && t)) ≡ (s || t)
or_rest true t = refl
or_rest false t = refl

bump : Bool → ℕ → ℕ
bump s n = cond s (min (n + 1) greatest) n

pub one_more : (c m : ℕ) → min (c + 1) m ≡ min (min c m + 1) m
one_more c m = omega arith

is_none : (b : Bool) (n : ℕ) → cond b (Some n) None ≡ None → b ≡ false
is_none true n e = absurd (cc)
is_none false n e = refl

module _ {A : Type 0} where
  is_key : (A → List ℕ) → List ℕ → A → Bool
  is_key key k b = bytes_eq (key b) k

  filter_more : (q : A → Bool) (all : List A) (a : A) (s t : Bool) (x : A) → q a ≡ not s → x ∷ filter q (cond t all (all ++ a ∷ [])) ≡ cond (s || t) (x ∷ filter q all) ((x ∷ filter q all) ++ a ∷ [])
  filter_more q all a true true x e = refl
  filter_more q all a true false x e = ap (λ (l : List A). x ∷ l) (filter-append q all (a ∷ []) ∙ ap (λ (b : Bool). filter q all ++ cond b (a ∷ []) []) e ∙ append-nil (filter q all))
  filter_more q all a false true x e = refl
  filter_more q all a false false x e = ap (λ (l : List A). x ∷ l) (filter-append q all (a ∷ []) ∙ ap (λ (b : Bool). filter q all ++ cond b (a ∷ []) []) e)

  -- the first of each key, once there is an item more
  firsts-more : (key : A → List ℕ) (xs : List A) (a : A) → firsts key (xs ++ a ∷ []) ≡ cond (list_any (λ b. bytes_eq (key b) (key a)) xs) (firsts key xs) (firsts key xs ++ a ∷ [])
  unfolding firsts
  firsts-more key [] a = refl
  firsts-more key (x ∷ xs) a =
      let q : A → Bool = λ b. not (bytes_eq (key x) (key b)) in
      ap (λ (l : List A). x ∷ filter q l) (firsts-more key xs a)
      ∙ filter_more q (firsts key xs) a (bytes_eq (key x) (key a)) (list_any (λ b. bytes_eq (key b) (key a)) xs) x refl

  -- a key stands among the first ones where it stands among all
  any-firsts : (key : A → List ℕ) (k : List ℕ) (xs : List A) → list_any (λ b. bytes_eq (key b) k) (firsts key xs) ≡ list_any (λ b. bytes_eq (key b) k) xs
  unfolding firsts
  any-firsts key k [] = refl
  any-firsts key k (x ∷ xs) =
      let test : A → Bool = λ b. bytes_eq (key b) k in
      let q : A → Bool = λ b. not (bytes_eq (key x) (key b)) in
      let alike : (c : A) → test c ≡ true → q c ≡ not (test x) = λ c e. ap (λ (l : List ℕ). not (bytes_eq (key x) l)) (eq_true (key c) k e) in
      ap (λ (b : Bool). test x || b) (any-filter_same test q (not (test x)) alike (firsts key xs))
      ∙ or_rest (test x) (list_any test (firsts key xs)) ∙ ap (λ (b : Bool). test x || b) (any-firsts key k xs)

  -- no two have one key
  Distinct : (A → List ℕ) → List A → Type 0
  Distinct key [] = Unit {0}
  Distinct key (k ∷ ks) = (list_any (λ b. bytes_eq (key b) (key k)) ks ≡ false) × Distinct key ks

  none-filter : (p q : A → Bool) (ks : List A) → list_any p ks ≡ false → list_any p (filter q ks) ≡ false
  none-filter p q [] e = refl
  none-filter p q (k ∷ ks) e =
      let isnt = neither (p k) (list_any p ks) e in
      elim (q k) as (λ t. list_any p (cond t (k ∷ filter q ks) (filter q ks)) ≡ false) [
        | true ↦ ap (λ (b : Bool). b || list_any p (filter q ks)) isnt.0 ∙ none-filter p q ks isnt.1
        | false ↦ none-filter p q ks isnt.1
      ]

  Distinct-filter : (key : A → List ℕ) (q : A → Bool) (ks : List A) → Distinct key ks → Distinct key (filter q ks)
  unfolding Distinct
  Distinct-filter key q [] d = d
  Distinct-filter key q (k ∷ ks) d =
      elim (q k) as (λ t. Distinct key (cond t (k ∷ filter q ks) (filter q ks))) [
        | true ↦ (none-filter (λ b. bytes_eq (key b) (key k)) q ks d.0, Distinct-filter key q ks d.1)
        | false ↦ Distinct-filter key q ks d.1
      ]

  Distinct-firsts : (key : A → List ℕ) (xs : List A) → Distinct key (firsts key xs)
  unfolding Distinct firsts
  Distinct-firsts key [] = tt
  Distinct-firsts key (x ∷ xs) =
      let test : A → Bool = λ b. bytes_eq (key b) (key x) in
      let q : A → Bool = λ b. not (bytes_eq (key x) (key b)) in
      let gone : (c : A) → test c ≡ true → q c ≡ false = λ c e. ap (λ (l : List ℕ). not (bytes_eq (key x) l)) (eq_true (key c) (key x) e) ∙ ap not (eq_self (key x)) in
      (any-filter_same test q false gone (firsts key xs), Distinct-filter key q (firsts key xs) (Distinct-firsts key xs))

  item : A → ℕ → Counted A
  item a n = record { item = a; count = n }

  map_same : {B : Type 0} (f g : A → B) → ((x : A) → f x ≡ g x) → (xs : List A) → map f xs ≡ map g xs
  map_same f g h [] = refl
  map_same f g h (x ∷ xs) = ap (λ b. b ∷ map f xs) (h x) ∙ ap (λ l. g x ∷ l) (map_same f g h xs)

  unbumped : (key : A → List ℕ) (n : A → ℕ) (ks : List A) (a : A) → list_any (λ b. bytes_eq (key b) (key a)) ks ≡ false
      → map (λ k. item k (n k)) ks ≡ map (λ k. item k (bump (bytes_eq (key k) (key a)) (n k))) ks
  unfolding bump
  unbumped key n [] a e = refl
  unbumped key n (k ∷ ks) a e =
      let isnt = neither (bytes_eq (key k) (key a)) (list_any (λ b. bytes_eq (key b) (key a)) ks) e in
      ap (λ (b : Bool). item k (cond b (min (n k + 1) greatest) (n k)) ∷ map (λ k. item k (n k)) ks) (sym isnt.0)
      ∙ ap (λ (l : List (Counted A)). item k (cond (bytes_eq (key k) (key a)) (min (n k + 1) greatest) (n k)) ∷ l) (unbumped key n ks a isnt.1)

  -- an item more: one more of its key where that is there, or else the first of its key
  pub with_one : (A → List ℕ) → List (Counted A) → A → List (Counted A)
  unfolding item
  with_one key [] a = item a 1 ∷ []
  with_one key (c ∷ cs) a = cond (bytes_eq (key c.item) (key a)) (record { item = c.item; count = min (c.count + 1) greatest } ∷ cs) (c ∷ with_one key cs a)

  pub one-nil : (key : A → List ℕ) (a : A) → with_one key [] a ≡ record { item = a; count = 1 } ∷ []
  unfolding with_one item
  one-nil key a = refl

  pub one-cons : (key : A → List ℕ) (c : Counted A) (cs : List (Counted A)) (a : A)
      → with_one key (c ∷ cs) a ≡ cond (bytes_eq (key c.item) (key a)) (record { item = c.item; count = min (c.count + 1) greatest } ∷ cs) (c ∷ with_one key cs a)
  unfolding with_one
  one-cons key c cs a = refl

  -- an item more, where no two of those that are there have one key
  one_of : (key : A → List ℕ) (n : A → ℕ) (ks : List A) (a : A) → Distinct key ks
      → with_one key (map (λ k. item k (n k)) ks) a ≡ map (λ k. item k (bump (bytes_eq (key k) (key a)) (n k))) ks ++ cond (list_any (λ b. bytes_eq (key b) (key a)) ks) [] (item a 1 ∷ [])
  unfolding with_one Distinct item bump
  one_of key n [] a d = refl
  one_of key n (k ∷ ks) a d =
      let more : List (Counted A) = map (λ k. item k (bump (bytes_eq (key k) (key a)) (n k))) ks in
      let old : List (Counted A) = map (λ k. item k (n k)) ks in
      let any : Bool = list_any (λ b. bytes_eq (key b) (key a)) ks in
      (elim (bytes_eq (key k) (key a)) as
      (λ s. bytes_eq (key k) (key a) ≡ s
      → cond s (item k (min (n k + 1) greatest) ∷ old) (item k (n k) ∷ with_one key old a) ≡ (item k (bump s (n k)) ∷ more) ++ cond (s || any) []
      (item a 1 ∷ [])) [
        | true ↦ λ e.
            let none : any ≡ false = subst (λ (l : List ℕ). list_any (λ b. bytes_eq (key b) l) ks ≡ false) (eq_true (key k) (key a) e) d.0 in
            ap (λ (l : List (Counted A)). item k (min (n k + 1) greatest) ∷ l) (unbumped key n ks a none ∙ sym (append-nil more))
        | false ↦ λ e. ap (λ (l : List (Counted A)). item k (n k) ∷ l) (one_of key n ks a d.1)
      ]) refl

  count_none : (key : A → List ℕ) (k : List ℕ) (xs : List A) → list_any (λ b. bytes_eq (key b) k) xs ≡ false → count_by (λ b. bytes_eq k (key b)) xs ≡ 0
  count_none key k [] e = refl
  count_none key k (x ∷ xs) e =
      let isnt = neither (bytes_eq (key x) k) (list_any (λ b. bytes_eq (key b) k) xs) e in
      sum_by-cons (λ b. cond (bytes_eq k (key b)) 1 0) x xs
      ∙ ap (λ (b : Bool). cond b 1 0 + count_by (λ b. bytes_eq k (key b)) xs) (eq_sym k (key x) ∙ isnt.0) ∙ ap (λ (m : ℕ). 0 + m) (count_none key k xs isnt.1)

  times-more : (key : A → List ℕ) (k : List ℕ) (xs : List A) (a : A) → times key k (xs ++ a ∷ []) ≡ bump (bytes_eq k (key a)) (times key k xs)
  unfolding bump
  times-more key k xs a =
      let c : ℕ = count_by (λ b. bytes_eq k (key b)) xs in
      ap (λ (n : ℕ). min n greatest) (sum_by_push (λ b. cond (bytes_eq k (key b)) 1 0) xs a)
      ∙ (elim (bytes_eq k (key a)) as (λ s. min (c + cond s 1 0) greatest ≡ cond s (min (min c greatest + 1) greatest) (min c greatest)) [
        | true ↦ one_more c greatest
        | false ↦ ap (λ (n : ℕ). min n greatest) (let same : c + 0 ≡ c = omega arith in same)
      ])

  -- what is counted of a list, once there is an item more
  pub counted-more : (key : A → List ℕ) (xs : List A) (a : A) → counted key (xs ++ a ∷ []) ≡ with_one key (counted key xs) a
  unfolding item bump
  counted-more key xs a =
      let new : A → Counted A = λ k. item k (times key (key k) (xs ++ a ∷ [])) in
      let any : Bool = list_any (λ b. bytes_eq (key b) (key a)) xs in
      let bumped : A → Counted A = λ k. item k (bump (bytes_eq (key k) (key a)) (times key (key k) xs)) in
      let alike : map new (firsts key xs) ≡ map bumped (firsts key xs) = map_same new bumped (λ k. ap (item k) (times-more key (key k) xs a)) (firsts key xs) in
      let split : map new (firsts key (xs ++ a ∷ [])) ≡ map new (firsts key xs) ++ cond any [] (item a 1 ∷ []) =
      ap (map new) (firsts-more key xs a)
      ∙ (elim any as (λ t. any ≡ t → map new (cond t (firsts key xs) (firsts key xs ++ a ∷ [])) ≡ map new (firsts key xs) ++ cond t [] (item a 1 ∷ [])) [
        | true ↦ λ e. sym (append-nil (map new (firsts key xs)))
        | false ↦ λ e. map-append new (firsts key xs) (a ∷ [])
            ∙ ap (λ (n : ℕ). map new (firsts key xs) ++ item a n ∷ [])
            (times-more key (key a) xs a ∙ ap (λ (b : Bool). bump b (times key (key a) xs)) (eq_self (key a))
            ∙ ap (λ (n : ℕ). min (min n greatest + 1) greatest) (count_none key (key a) xs e))
      ]) refl in
      split ∙ ap (λ (l : List (Counted A)). l ++ cond any [] (item a 1 ∷ [])) alike
      ∙ ap (λ (t : Bool). map bumped (firsts key xs) ++ cond t [] (item a 1 ∷ [])) (sym (any-firsts key (key a) xs))
      ∙ sym (one_of key (λ k. times key (key k) xs) (firsts key xs) a (Distinct-firsts key xs))

  NoneBefore : (Counted A → Bool) → List (Counted A) → ℕ → Counted A → Type 0
  NoneBefore p cs n d = (k : ℕ) → k < n → p (get_or cs k d) ≡ false

  is_of : (A → List ℕ) → List ℕ → Counted A → Bool
  is_of key k c = bytes_eq (key c.item) k

  abbrev pub more_of_it : Counted A → Counted A
  more_of_it c = record { item = c.item; count = min (c.count + 1) greatest }

  there : (key : A → List ℕ) (cs : List (Counted A)) (a : A) (n : ℕ) (d : Counted A) → n < length cs
      → bytes_eq (key ((get_or cs n d).item)) (key a) ≡ true → ((k : ℕ) → k < n → bytes_eq (key ((get_or cs k d).item)) (key a) ≡ false)
      → with_one key cs a ≡ set cs n (more_of_it (get_or cs n d))
  unfolding with_one
  there key [] a n d lt is none = absurd (omega (arith, lt))
  there key (c ∷ cs) a zero d lt is none = ap (λ (b : Bool). cond b (more_of_it c ∷ cs) (c ∷ with_one key cs a)) is
  there key (c ∷ cs) a (suc n) d lt is none =
      ap (λ (b : Bool). cond b (more_of_it c ∷ cs) (c ∷ with_one key cs a)) (none 0 (omega arith))
      ∙ ap (λ (l : List (Counted A)). c ∷ l) (there key cs a n d (omega (arith, lt)) is (λ k lt. none (suc k) (omega arith)))

  nowhere : (key : A → List ℕ) (cs : List (Counted A)) (a : A) (d : Counted A) → ((k : ℕ) → k < length cs → bytes_eq (key ((get_or cs k d).item)) (key a) ≡ false) → with_one key cs a ≡ cs ++ item a 1 ∷ []
  unfolding with_one item
  nowhere key [] a d none = refl
  nowhere key (c ∷ cs) a d none =
      ap (λ (b : Bool). cond b (more_of_it c ∷ cs) (c ∷ with_one key cs a)) (none 0 (omega arith))
      ∙ ap (λ (l : List (Counted A)). c ∷ l) (nowhere key cs a d (λ k lt. none (suc k) (omega arith)))

  pub at_place : (key : A → List ℕ) (cs : List (Counted A)) (a : A) (n : ℕ) (d : Counted A) → position (λ c. bytes_eq (key c.item) (key a)) cs ≡ Some n → with_one key cs a ≡ set cs n (more_of_it (get_or cs n d))
  at_place key cs a n d e = let is = position-Some (λ (c : Counted A). bytes_eq (key c.item) (key a)) cs n d e in there key cs a n d is.0 is.1 is.2

  pub behind_all : (key : A → List ℕ) (cs : List (Counted A)) (a : A) → position (λ c. bytes_eq (key c.item) (key a)) cs ≡ None → with_one key cs a ≡ cs ++ record { item = a; count = 1 } ∷ []
  unfolding item
  behind_all key cs a e =
      let p : Counted A → Bool = λ c. bytes_eq (key c.item) (key a) in
      let isnt : nat_lt (position_or_len p cs) (length cs) ≡ false = is_none _ _ e in
      let le : length cs ≤ position_or_len p cs = ltb-false _ _ isnt in
      nowhere key cs a (record { item = a; count = 1 }) (λ k lt. fails_before_first p cs k (record { item = a; count = 1 }) (omega (arith, lt, le)))

  pub length-counted : (key : A → List ℕ) (xs : List A) → length (counted key xs) ≡ length (firsts key xs)
  unfolding item
  length-counted key xs = length-map (firsts key xs) (λ (a : A). item a (times key (key a) xs))
