-- A list that is taken from the front, one element after another.
use Rattle.std.proofs.Common.{◌≡◌, ℕ, zero, suc, ◌<◌, List, [], ◌∷◌, ◌++◌, map, length, get_or, take, drop, sym, refl, ap, ◌∙◌, arith}
use Rattle.std.proofs.lemmas.List.{take_all, take-append-le}

pub nil : {X : Type 0} (xs : List X) → length xs ≡ 0 → xs ≡ []
nil [] e = refl
nil (x ∷ xs) e = absurd (omega arith)

-- what a slice of all was left as, the whole is
pub all_written : {X : Type 0} (len : ℕ) (old new : List X) → length old ≡ len → length new ≡ length old → take len (new ++ drop (length new) old) ≡ new
all_written len old new len_is same = take-append-le len new (drop (length new) old) (omega arith) ∙ take_all len new (omega arith)

module _ {X : Type 0} where
  -- lists that are the same begin with the same, and what is left is the same
  pub both : {x y : X} {xs ys : List X} → x ∷ xs ≡ y ∷ ys → (x ≡ y) × (xs ≡ ys)
  both {x} {y} {xs} {ys} e = (ap (λ l. get_or l 0 x) e, ap (drop 1) e)

  -- the first of what is left is the element at that place
  pub record Cut (x : X) (rest xs : List X) (at : ℕ) : Type 0 where
    pub within : at < length xs
    pub here : (d : X) → get_or xs at d ≡ x
    pub left : rest ≡ drop (suc at) xs

  pub cut : (x : X) (rest xs : List X) (at : ℕ) → x ∷ rest ≡ drop at xs → Cut x rest xs at
  cut x rest [] zero e = let n : length (x ∷ rest) ≡ 0 = ap length e in absurd (omega arith)
  cut x rest [] (suc at) e = let n : length (x ∷ rest) ≡ 0 = ap length e in absurd (omega arith)
  cut x rest (y ∷ xs) zero e = record { within = omega arith; here = λ d. sym (ap (λ l. get_or l 0 x) e); left = ap (drop 1) e }
  cut x rest (y ∷ xs) (suc at) e = let r : Cut x rest xs at = cut x rest xs at e in record { within = omega (arith, r.within); here = r.here; left = r.left }

  -- there is more, so something is left
  pub not_done : (xs : List X) (at : ℕ) → at < length xs → length (drop at xs) ≡ 0 → ⊥
  not_done [] at lt e = omega (arith, lt)
  not_done (x ∷ xs) zero lt e = omega (arith, e)
  not_done (x ∷ xs) (suc at) lt e = not_done xs at (omega (arith, lt)) e

module _ {X L : Type 0} (k : L → X) where
  pub record Stepped (x : X) (rest : List X) (ls : List L) (at : ℕ) : Type 0 where
    pub within : at < length ls
    pub here : (l : L) → l ≡ get_or ls at l → x ≡ k l
    pub left : rest ≡ map k (drop (suc at) ls)

  pub stepped : (x : X) (rest : List X) (ls : List L) (at : ℕ) → x ∷ rest ≡ map k (drop at ls) → Stepped x rest ls at
  stepped x rest [] zero e = let n : length (x ∷ rest) ≡ 0 = ap length e in absurd (omega arith)
  stepped x rest [] (suc at) e = let n : length (x ∷ rest) ≡ 0 = ap length e in absurd (omega arith)
  stepped x rest (l ∷ ls) zero e = record { within = omega arith; here = λ l' is. ap (λ xs. get_or xs 0 x) e ∙ ap k (sym is); left = ap (drop 1) e }
  stepped x rest (l ∷ ls) (suc at) e = let r : Stepped x rest ls at = stepped x rest ls at e in record { within = omega (arith, r.within); here = r.here; left = r.left }
