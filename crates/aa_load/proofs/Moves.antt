-- A loop that moves each element.
use Rattle.std.proofs.Common.{◌≡◌, ℕ, zero, suc, ◌<◌, List, [], ◌∷◌, ◌++◌, map, length, take, drop, get_or, set, refl, ap, ◌∙◌, arith}

-- what stands at the place that the loop has come to
pub not_yet : {X : Type 0} (f : X → X) (xs ys : List X) (i : ℕ) (d : X) → ys ≡ map f (take i xs) ++ drop i xs → i < length xs → get_or ys i d ≡ get_or xs i d
not_yet {X} f xs ys i d e lt = ap (λ (l : List X). get_or l i d) e ∙ there xs i lt
  where
    there : (xs : List X) (i : ℕ) → i < length xs → get_or (map f (take i xs) ++ drop i xs) i d ≡ get_or xs i d
    there [] i lt = absurd (omega arith)
    there (x ∷ xs) zero lt = refl
    there (x ∷ xs) (suc i) lt = there xs i (omega arith)

-- one more is moved
pub one_more : {X : Type 0} (f : X → X) (xs ys : List X) (i : ℕ) (d y : X) → ys ≡ map f (take i xs) ++ drop i xs → i < length xs → y ≡ f (get_or xs i d)
    → set ys i y ≡ map f (take (suc i) xs) ++ drop (suc i) xs
one_more {X} f xs ys i d y e lt is = ap (λ (l : List X). set l i y) e ∙ ap (λ (z : X). set (map f (take i xs) ++ drop i xs) i z) is ∙ there xs i lt
  where
    there : (xs : List X) (i : ℕ) → i < length xs → set (map f (take i xs) ++ drop i xs) i (f (get_or xs i d)) ≡ map f (take (suc i) xs) ++ drop (suc i) xs
    there [] i lt = absurd (omega arith)
    there (x ∷ xs) zero lt = refl
    there (x ∷ xs) (suc i) lt = ap (λ (l : List X). f x ∷ l) (there xs i (omega arith))
