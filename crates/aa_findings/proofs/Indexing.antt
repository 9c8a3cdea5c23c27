-- Places that are added to the lists of numbers.
use Rattle.std.proofs.Common.{◌≡◌, ℕ, zero, suc, ◌+◌, ◌<◌, ◌≤◌, List, [], ◌∷◌, ◌++◌, length, take, get_or, set, Bool, true, false, true≢false, cond, refl, sym, ap, ◌∙◌, arith, ⊎_elim}
use Rattle.std.specs.Prelude.{◌||◌, ◌&&◌, ◌==◌, ◌-◌, not}
use Rattle.std.proofs.lemmas.Bool.{cases_Bool, ne_eqb, eq-eqb, eqb-true, cond-true, cond-false}
use Rattle.std.proofs.lemmas.List.{append-nil, take_more, get_or-set_same, get_or-set_other, length-set, length-append, get_or-append-add}
use Rattle.std.proofs.lemmas.List.Folds.{list_any-append}
use Rattle.aa_findings.specs.Places.{places, has, is_last, list_at, with_place}
use Rattle.aa_findings.proofs.Placing.{places_push}

set_past : {X : Type 0} (xs : List X) (n : ℕ) (y : X) → length xs ≤ n → set xs n y ≡ xs
set_past [] n y le = refl
set_past (x ∷ xs) zero y le = absurd (omega (arith, le))
set_past (x ∷ xs) (suc n) y le = ap (λ l. x ∷ l) (set_past xs n y (omega (arith, le)))

or_false : (b : Bool) → (b || false) ≡ b
or_false true = refl
or_false false = refl

-- what is added stands at the end
pub last_pushed : (m : ℕ) (numbers : List ℕ) → is_last m (numbers ++ m ∷ []) ≡ true
last_pushed m numbers = by (numbers ++ m ∷ []) (length-append numbers (m ∷ [])) here
  where
    here : get_or (numbers ++ m ∷ []) (length numbers) 0 ≡ m
    here = let at : length numbers ≡ length numbers + 0 = omega arith in ap (λ n. get_or (numbers ++ m ∷ []) n 0) at ∙ get_or-append-add numbers (m ∷ []) 0 0

    by : (l : List ℕ) → length l ≡ length numbers + 1 → get_or l (length numbers) 0 ≡ m → is_last m l ≡ true
    by [] long e = absurd (omega (arith, long))
    by (x ∷ xs) long e = let at : length (x ∷ xs) - 1 ≡ length numbers = omega (arith, long) in
        let last : (get_or (x ∷ xs) (length (x ∷ xs) - 1) 0 == m) ≡ true = eq-eqb (get_or (x ∷ xs) (length (x ∷ xs) - 1) 0) m (ap (λ n. get_or (x ∷ xs) n 0) at ∙ e) in
        ap (λ b. not b && (get_or (x ∷ xs) (length (x ∷ xs) - 1) 0 == m)) (ne_eqb (length (x ∷ xs)) 0 (λ s. absurd (omega (arith, s)))) ∙ last

pub placed_long : (place n : ℕ) (index : List (List ℕ)) → length (with_place place n index) ≡ length index
placed_long place n index = at (is_last place (list_at index n))
  where
    at : (b : Bool) → length (cond b index (set index n (list_at index n ++ place ∷ []))) ≡ length index
    at true = refl
    at false = length-set index n (list_at index n ++ place ∷ [])

-- a place is the last of the list of each number among these, and the other lists stay
abbrev pub Placed : (place : ℕ) (numbers : List ℕ) (old now : List (List ℕ)) → Type 0
Placed place numbers old now = (n : ℕ) → n < length old → is_last place (list_at old n) ≡ false → list_at now n ≡ list_at old n ++ cond (has n numbers) (place ∷ []) []

has_more : (n : ℕ) (numbers : List ℕ) (i : ℕ) → i < length numbers → has n (take (i + 1) numbers) ≡ (has n (take i numbers) || (get_or numbers i 0 == n))
has_more n numbers i lt =
    ap (has n) (take_more numbers i 0 lt) ∙ list_any-append (λ k. k == n) (take i numbers) (get_or numbers i 0 ∷ []) ∙ ap (λ b. has n (take i numbers) || b) (or_false (get_or numbers i 0 == n))

-- one number more
pub placed_more : (place : ℕ) (numbers : List ℕ) (i m : ℕ) (old now next : List (List ℕ)) → i < length numbers → m ≡ get_or numbers i 0 → length now ≡ length old
    → next ≡ with_place place m now → Placed place (take i numbers) old now → Placed place (take (i + 1) numbers) old next
placed_more place numbers i m old now next lt is long e so_far n less apart =
    ap (λ l. list_at l n) e
    ∙ ⊎_elim (same (has n (take i numbers)) (so_far n less apart)) other (cases_Bool (m == n))
    ∙ ap (λ b. list_at old n ++ cond b (place ∷ []) []) (sym (has_more n numbers i lt ∙ ap (λ k. has n (take i numbers) || (k == n)) (sym is)))
  where
    h : Bool
    h = has n (take i numbers)

    pushed : List (List ℕ)
    pushed = set now n (list_at now n ++ place ∷ [])

    same : (b : Bool) → list_at now n ≡ list_at old n ++ cond b (place ∷ []) [] → (m == n) ≡ true → list_at (with_place place m now) n ≡ list_at old n ++ cond (b || (m == n)) (place ∷ []) []
    same true f t =
        ap (λ k. list_at (with_place place k now) n) (eqb-true m n t)
        ∙ ap (λ l. list_at l n) (cond-true (is_last place (list_at now n)) now pushed (ap (is_last place) f ∙ last_pushed place (list_at old n)))
        ∙ f
    same false f t =
        let was : list_at now n ≡ list_at old n = f ∙ append-nil (list_at old n) in
        ap (λ k. list_at (with_place place k now) n) (eqb-true m n t)
        ∙ ap (λ l. list_at l n) (cond-false (is_last place (list_at now n)) now pushed (ap (is_last place) was ∙ apart))
        ∙ get_or-set_same now n (list_at now n ++ place ∷ []) [] (omega (arith, less, long))
        ∙ ap (λ l. l ++ place ∷ []) was
        ∙ ap (λ b. list_at old n ++ cond b (place ∷ []) []) (sym t)

    stays : (b : Bool) → (m == n) ≡ false → list_at (cond b now (set now m (list_at now m ++ place ∷ []))) n ≡ list_at now n
    stays true f = refl
    stays false f = get_or-set_other now m n (list_at now m ++ place ∷ []) [] (λ s. true≢false (sym (eq-eqb m n (sym s)) ∙ f))

    other : (m == n) ≡ false → list_at (with_place place m now) n ≡ list_at old n ++ cond (h || (m == n)) (place ∷ []) []
    other f =
        stays (is_last place (list_at now m)) f ∙ so_far n less apart ∙ ap (λ b. list_at old n ++ cond b (place ∷ []) []) (sym (ap (λ b. h || b) f ∙ or_false h))

-- a number that has no list
pub placed_past : (place n : ℕ) (index : List (List ℕ)) → length index ≤ n → with_place place n index ≡ index
placed_past place n index past = at (is_last place (list_at index n))
  where
    at : (b : Bool) → cond b index (set index n (list_at index n ++ place ∷ [])) ≡ index
    at true = refl
    at false = set_past index n (list_at index n ++ place ∷ []) past

pub placed_none : (place : ℕ) (index : List (List ℕ)) → Placed place [] index index
placed_none place index n less apart = sym (append-nil (list_at index n))

-- places of the lists that hold a number, with one list more
pub places_more : (n place : ℕ) (rows : List (List ℕ)) (row : List ℕ) → length rows ≡ place → places (has n) (rows ++ row ∷ []) ≡ places (has n) rows ++ cond (has n row) (place ∷ []) []
places_more n place rows row long = places_push (has n) 0 rows row ∙ ap (λ k. places (has n) rows ++ cond (has n row) (k ∷ []) []) at
  where
    at : 0 + length rows ≡ place
    at = omega (arith, long)
