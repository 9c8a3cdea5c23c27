-- What stands first in a list and fits, and what is left behind it.
use Rattle.std.proofs.Common.{◌≡◌, ℕ, ◌+◌, Bool, true, false, cond, List, [], ◌∷◌, ◌++◌, drop, refl, ap, ◌∙◌}
use Rattle.std.specs.List.{list_all, prefix_len, take_while}
use Rattle.std.proofs.Math.Numerals.{one-add}
use Rattle.std.proofs.lemmas.Bool.{and_parts, and_from}
use Rattle.std.proofs.lemmas.List.{take-append-drop, append-nil}
use Rattle.std.proofs.lemmas.List.Sums.{take_while-cons}
use Rattle.aa_rules.specs.Modes.{behind}

-- of letters that fit, and of what follows, the first that fit
pub taken_cons : (fits : ℕ → Bool) (b : ℕ) (bs : List ℕ) (v : Bool) → fits b ≡ v → take_while fits (b ∷ bs) ≡ cond v (b ∷ take_while fits bs) []
taken_cons fits b bs v e = take_while-cons fits b bs ∙ ap (λ (x : Bool). cond x (b ∷ take_while fits bs) []) e

pub left_cons : (fits : ℕ → Bool) (b : ℕ) (bs : List ℕ) (v : Bool) → fits b ≡ v → behind fits (b ∷ bs) ≡ cond v (behind fits bs) (b ∷ bs)
left_cons fits b bs true e = ap (λ (x : Bool). drop (cond x (1 + prefix_len fits bs) 0) (b ∷ bs)) e ∙ ap (λ (n : ℕ). drop n (b ∷ bs)) (one-add (prefix_len fits bs))
left_cons fits b bs false e = ap (λ (x : Bool). drop (cond x (1 + prefix_len fits bs) 0) (b ∷ bs)) e

pub taken_over : (fits : ℕ → Bool) (front rest : List ℕ) → list_all fits front ≡ true → take_while fits (front ++ rest) ≡ front ++ take_while fits rest
taken_over fits [] rest h = refl
taken_over fits (b ∷ bs) rest h =
    let p = and_parts (fits b) (list_all fits bs) h in
    taken_cons fits b (bs ++ rest) true p.0 ∙ ap (λ (x : List ℕ). b ∷ x) (taken_over fits bs rest p.1)

pub left_over : (fits : ℕ → Bool) (front rest : List ℕ) → list_all fits front ≡ true → behind fits (front ++ rest) ≡ behind fits rest
left_over fits [] rest h = refl
left_over fits (b ∷ bs) rest h =
    let p = and_parts (fits b) (list_all fits bs) h in
    left_cons fits b (bs ++ rest) true p.0 ∙ left_over fits bs rest p.1

module _ (fits others : ℕ → Bool) (apart : (c : ℕ) → others c ≡ true → fits c ≡ false) where
  pub taken_none : (rest : List ℕ) → list_all others rest ≡ true → take_while fits rest ≡ []
  taken_none [] h = refl
  taken_none (b ∷ bs) h = taken_cons fits b bs false (apart b (and_parts (others b) (list_all others bs) h).0)

  pub left_none : (rest : List ℕ) → list_all others rest ≡ true → behind fits rest ≡ rest
  left_none [] h = refl
  left_none (b ∷ bs) h = left_cons fits b bs false (apart b (and_parts (others b) (list_all others bs) h).0)

pub all_both : (fits : ℕ → Bool) (xs ys : List ℕ) → list_all fits xs ≡ true → list_all fits ys ≡ true → list_all fits (xs ++ ys) ≡ true
all_both fits [] ys h k = k
all_both fits (x ∷ xs) ys h k =
    let p = and_parts (fits x) (list_all fits xs) h in
    and_from (fits x) (list_all fits (xs ++ ys)) p.0 (all_both fits xs ys p.1 k)

pub all_back : (fits : ℕ → Bool) (xs ys : List ℕ) → list_all fits (xs ++ ys) ≡ true → list_all fits ys ≡ true
all_back fits [] ys h = h
all_back fits (x ∷ xs) ys h = all_back fits xs ys (and_parts (fits x) (list_all fits (xs ++ ys)) h).1

pub all_front : (fits : ℕ → Bool) (xs ys : List ℕ) → list_all fits (xs ++ ys) ≡ true → list_all fits xs ≡ true
all_front fits [] ys h = refl
all_front fits (x ∷ xs) ys h =
    let p = and_parts (fits x) (list_all fits (xs ++ ys)) h in
    and_from (fits x) (list_all fits xs) p.0 (all_front fits xs ys p.1)

one_taken : (fits : ℕ → Bool) (x : ℕ) (xs : List ℕ) (v : Bool) → fits x ≡ v → list_all fits (take_while fits xs) ≡ true → list_all fits (take_while fits (x ∷ xs)) ≡ true
one_taken fits x xs true e h = ap (list_all fits) (taken_cons fits x xs true e) ∙ and_from (fits x) (list_all fits (take_while fits xs)) e h
one_taken fits x xs false e h = ap (list_all fits) (taken_cons fits x xs false e)

pub all_taken : (fits : ℕ → Bool) (xs : List ℕ) → list_all fits (take_while fits xs) ≡ true
all_taken fits [] = refl
all_taken fits (x ∷ xs) = one_taken fits x xs _ refl (all_taken fits xs)

-- what fits, and then a sign that doesn't
pub up_to : (fits : ℕ → Bool) (sign : ℕ) → fits sign ≡ false → (front rest : List ℕ) → list_all fits front ≡ true
    → (take_while fits (front ++ (sign ∷ rest)) ≡ front) × (behind fits (front ++ (sign ∷ rest)) ≡ sign ∷ rest)
up_to fits sign other front rest h = (
  taken_over fits front (sign ∷ rest) h ∙ ap (λ (x : List ℕ). front ++ x) (taken_cons fits sign rest false other) ∙ append-nil front,
  left_over fits front (sign ∷ rest) h ∙ left_cons fits sign rest false other,
)

pub put_together : (fits : ℕ → Bool) (xs : List ℕ) → take_while fits xs ++ behind fits xs ≡ xs
put_together fits xs = take-append-drop (prefix_len fits xs) xs
