-- The places of elements that pass a test.
use Rattle.std.proofs.Common.{◌≡◌, ℕ, zero, suc, ◌+◌, ◌<◌, ◌≤◌, List, [], ◌∷◌, ◌++◌, length, map, get_or, Bool, true, false, true≢false, cond, Option, Some, refl, sym, ap, ◌∙◌, ⊎_elim, arith}
use Rattle.std.specs.Prelude.{◌||◌, ◌&&◌, ◌==◌, not, ◌-◌}
use Rattle.std.specs.List.{list_any, flat_map, filter, slice_get}
use Rattle.std.specs.Option.{option_map_or}
use Rattle.std.proofs.lemmas.Bool.{cases_Bool, ne_eqb, eq-eqb, eqb-true}
use Rattle.std.proofs.Math.Path.{fun_ext}
use Rattle.aa_findings.specs.Places.{places_from, places, has, is_last, at_place, given_at}

-- two numbers are the same just where two others are
pub eqs_alike : (a b c d : ℕ) → (a ≡ b → c ≡ d) → (c ≡ d → a ≡ b) → (a == b) ≡ (c == d)
eqs_alike a b c d there back =
    ⊎_elim
    (λ (t : (a == b) ≡ true). t ∙ sym (eq-eqb c d (there (eqb-true a b t))))
    (λ (f : (a == b) ≡ false). f ∙ sym (ne_eqb c d (λ e. true≢false (sym (eq-eqb a b (back e)) ∙ f))))
    (cases_Bool (a == b))

pub places_ext : {X : Type 0} (f g : X → Bool) (k : ℕ) (xs : List X) → ((x : X) → f x ≡ g x) → places_from f k xs ≡ places_from g k xs
places_ext f g k xs same = ap (λ t. places_from t k xs) (fun_ext same)

pub places_map : {X Y : Type 0} (test : Y → Bool) (f : X → Y) (k : ℕ) (xs : List X) → places_from test k (map f xs) ≡ places_from (λ x. test (f x)) k xs
places_map test f k [] = refl
places_map test f k (x ∷ xs) = ap (λ l. cond (test (f x)) (k ∷ l) l) (places_map test f (suc k) xs)

-- one element more
pub places_push : {X : Type 0} (test : X → Bool) (k : ℕ) (xs : List X) (y : X) → places_from test k (xs ++ y ∷ []) ≡ places_from test k xs ++ cond (test y) ((k + length xs) ∷ []) []
places_push test k [] y = at (test y)
  where
    at : (b : Bool) → cond b (k ∷ []) [] ≡ cond b ((k + 0) ∷ []) []
    at true = let e : k ≡ k + 0 = omega arith in ap (λ n. n ∷ []) e
    at false = refl
places_push test k (x ∷ xs) y = at (test x) (places_push test (suc k) xs y ∙ ap (λ n. places_from test (suc k) xs ++ cond (test y) (n ∷ []) []) same)
  where
    same : suc k + length xs ≡ k + length (x ∷ xs)
    same = omega arith

    at : (b : Bool) → places_from test (suc k) (xs ++ y ∷ []) ≡ places_from test (suc k) xs ++ cond (test y) ((k + length (x ∷ xs)) ∷ []) []
        → cond b (k ∷ places_from test (suc k) (xs ++ y ∷ [])) (places_from test (suc k) (xs ++ y ∷ [])) ≡ cond b
        (k ∷ places_from test (suc k) xs) (places_from test (suc k) xs) ++ cond (test y) ((k + length (x ∷ xs)) ∷ []) []
    at true e = ap (λ l. k ∷ l) e
    at false e = e

-- each place is one of the list
pub places_within : {X : Type 0} (test : X → Bool) (k : ℕ) (xs : List X) (j : ℕ) → j < length (places_from test k xs) → get_or (places_from test k xs) j 0 < k + length xs
places_within test k [] j lt = absurd (omega (arith, lt))
places_within test k (x ∷ xs) j lt = at (test x) (λ i l. places_within test (suc k) xs i l) j lt
  where
    at : (b : Bool) → ((i : ℕ) → i < length (places_from test (suc k) xs) → get_or (places_from test (suc k) xs) i 0 < suc k + length xs) → (i : ℕ)
        → i < length (cond b (k ∷ places_from test (suc k) xs) (places_from test (suc k) xs)) → get_or (cond b (k ∷ places_from test (suc k) xs) (places_from test (suc k) xs)) i 0 < k + length (x ∷ xs)
    at true rest zero l = omega arith
    at true rest (suc i) l = let r = rest i (omega (arith, l)) in omega (arith, r)
    at false rest i l = let r = rest i l in omega (arith, r)

and_false : (a : Bool) {b : Bool} → b ≡ false → (a && b) ≡ false
and_false true e = e
and_false false e = refl

-- no place is last that is behind all
all_less : (m : ℕ) (numbers : List ℕ) → ((j : ℕ) → j < length numbers → get_or numbers j 0 < m) → is_last m numbers ≡ false
all_less m [] less = refl
all_less m (n ∷ ns) less =
    let lt = less (length (n ∷ ns) - 1) (omega arith) in
    and_false (not (length (n ∷ ns) == 0)) (ne_eqb (get_or (n ∷ ns) (length (n ∷ ns) - 1) 0) m (λ e. absurd (omega (arith, lt, e))))

pub not_last : {X : Type 0} (test : X → Bool) (xs : List X) (m : ℕ) → length xs ≤ m → is_last m (places test xs) ≡ false
not_last test xs m le = all_less m (places test xs) (λ j l. let b = places_within test 0 xs j l in omega (arith, b, le))

none_before : {X : Type 0} (test : X → Bool) (n m : ℕ) (zs : List X) → n < m → has n (places_from test m zs) ≡ false
none_before test n m [] lt = refl
none_before test n m (z ∷ zs) lt = at (test z) (none_before test n (suc m) zs (omega arith))
  where
    at : (b : Bool) → has n (places_from test (suc m) zs) ≡ false → has n (cond b (m ∷ places_from test (suc m) zs) (places_from test (suc m) zs)) ≡ false
    at true f = ap (λ c. c || has n (places_from test (suc m) zs)) (ne_eqb m n (λ s. absurd (omega (arith, s, lt)))) ∙ f
    at false f = f

-- whether an element passes is whether its place is one
pub has_place : {X : Type 0} (test : X → Bool) (k : ℕ) (xs : List X) (i : ℕ) (x : X) → slice_get xs i ≡ Some x → has (k + i) (places_from test k xs) ≡ test x
has_place test k [] i x e = absurd (cc e)
has_place test k (y ∷ ys) zero x e = at (test y) refl
  where
    same : y ≡ x
    same = cc e

    is_k : (k == (k + 0)) ≡ true
    is_k = eq-eqb k (k + 0) (omega arith)

    at : (b : Bool) → test y ≡ b → has (k + 0) (cond b (k ∷ places_from test (suc k) ys) (places_from test (suc k) ys)) ≡ test x
    at true t = ap (λ c. c || has (k + 0) (places_from test (suc k) ys)) is_k ∙ sym t ∙ ap test same
    at false t = none_before test (k + 0) (suc k) ys (omega arith) ∙ sym t ∙ ap test same
has_place test k (y ∷ ys) (suc i) x e = at (test y) (ap (λ n. has n (places_from test (suc k) ys)) next ∙ has_place test (suc k) ys i x e)
  where
    next : k + suc i ≡ suc k + i
    next = omega arith

    at : (b : Bool) → has (k + suc i) (places_from test (suc k) ys) ≡ test x → has (k + suc i) (cond b (k ∷ places_from test (suc k) ys) (places_from test (suc k) ys)) ≡ test x
    at true f = ap (λ c. c || has (k + suc i) (places_from test (suc k) ys)) (ne_eqb k (k + suc i) (λ s. absurd (omega (arith, s)))) ∙ f
    at false f = f

-- some element passes a test where some does of those that pass another, without which it fails
module _ {X : Type 0} (test : X → Bool) (get : ℕ → Option X) where
  any_from : (f : X → Bool) → ((x : X) → test x ≡ false → f x ≡ false) → (k : ℕ) (xs : List X) → ((i n : ℕ) → n ≡ k + i → get n ≡ slice_get xs i)
      → list_any (λ n. option_map_or f (get n) false) (places_from test k xs) ≡ list_any f xs
  any_from f fails k [] gets = refl
  any_from f fails k (x ∷ xs) gets = at (test x) refl (any_from f fails (suc k) xs (λ i n e. gets (suc i) n (omega (arith, e))))
    where
      at : (b : Bool) → test x ≡ b → list_any (λ n. option_map_or f (get n) false) (places_from test (suc k) xs) ≡ list_any f xs
          → list_any (λ n. option_map_or f (get n) false) (cond b (k ∷ places_from test (suc k) xs) (places_from test (suc k) xs)) ≡ (f x || list_any f xs)
      at true t rest =
          ap (λ o. option_map_or f o false || list_any (λ n. option_map_or f (get n) false) (places_from test (suc k) xs)) (gets 0 k (omega arith)) ∙ ap (λ b. f x || b) rest
      at false t rest = rest ∙ sym (ap (λ b. b || list_any f xs) (fails x t))

  given_from : {Y : Type 0} (f : X → List Y) → ((x : X) → test x ≡ false → f x ≡ []) → (k : ℕ) (xs : List X) → ((i n : ℕ) → n ≡ k + i → get n ≡ slice_get xs i)
      → flat_map (λ n. option_map_or f (get n) []) (places_from test k xs) ≡ flat_map f xs
  given_from f fails k [] gets = refl
  given_from f fails k (x ∷ xs) gets = at (test x) refl (given_from f fails (suc k) xs (λ i n e. gets (suc i) n (omega (arith, e))))
    where
      at : (b : Bool) → test x ≡ b → flat_map (λ n. option_map_or f (get n) []) (places_from test (suc k) xs) ≡ flat_map f xs
          → flat_map (λ n. option_map_or f (get n) []) (cond b (k ∷ places_from test (suc k) xs) (places_from test (suc k) xs)) ≡ f x ++ flat_map f xs
      at true t rest =
          ap (λ o. option_map_or f o [] ++ flat_map (λ n. option_map_or f (get n) []) (places_from test (suc k) xs)) (gets 0 k (omega arith)) ∙ ap (λ l. f x ++ l) rest
      at false t rest = rest ∙ sym (ap (λ l. l ++ flat_map f xs) (fails x t))

pub any_placed : {X : Type 0} (test f : X → Bool) (xs : List X) → ((x : X) → test x ≡ false → f x ≡ false) → list_any (at_place f xs) (places test xs) ≡ list_any f xs
any_placed test f xs fails = any_from test (slice_get xs) f fails 0 xs (λ i n e. let same : n ≡ i = omega (arith, e) in ap (slice_get xs) same)

pub given_placed : {X Y : Type 0} (test : X → Bool) (f : X → List Y) (xs : List X) → ((x : X) → test x ≡ false → f x ≡ []) → flat_map (given_at f xs) (places test xs) ≡ flat_map f xs
given_placed test f xs fails = given_from test (slice_get xs) f fails 0 xs (λ i n e. let same : n ≡ i = omega (arith, e) in ap (slice_get xs) same)

-- those places whose elements pass another test
pub places_kept : {X : Type 0} (keeps : ℕ → Bool) (test other : X → Bool) (k : ℕ) (xs : List X) → ((i n : ℕ) (x : X) → n ≡ k + i → slice_get xs i ≡ Some x → keeps n ≡ other x)
    → filter keeps (places_from test k xs) ≡ places_from (λ x. other x && test x) k xs
places_kept keeps test other k [] same = refl
places_kept keeps test other k (x ∷ xs) same = at (test x) (other x) (same 0 k x (omega arith) refl) (places_kept keeps test other (suc k) xs (λ i n y e g. same (suc i) n y (omega (arith, e)) g))
  where
    rest : List ℕ
    rest = places_from (λ y. other y && test y) (suc k) xs

    at : (b o : Bool) → keeps k ≡ o → filter keeps (places_from test (suc k) xs) ≡ rest
        → filter keeps (cond b (k ∷ places_from test (suc k) xs) (places_from test (suc k) xs)) ≡ cond (o && b) (k ∷ rest) rest
    at true true e f = ap (λ c. cond c (k ∷ filter keeps (places_from test (suc k) xs)) (filter keeps (places_from test (suc k) xs))) e ∙ ap (λ l. k ∷ l) f
    at true false e f = ap (λ c. cond c (k ∷ filter keeps (places_from test (suc k) xs)) (filter keeps (places_from test (suc k) xs))) e ∙ f
    at false true e f = f
    at false false e f = f

pub placed_is : {X : Type 0} (test : X → Bool) (xs : List X) (n : ℕ) (x : X) → slice_get xs n ≡ Some x → has n (places test xs) ≡ test x
placed_is test xs n x e = let at : n ≡ 0 + n = omega arith in ap (λ k. has k (places test xs)) at ∙ has_place test 0 xs n x e
