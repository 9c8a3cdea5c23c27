-- A list as an element, what stands before it and what stands behind.
use Rattle.std.proofs.Common.{◌≡◌, ℕ, ◌+◌, ◌<◌, List, ◌∷◌, ◌++◌, length, take, drop, get_or, ap, sym, ◌∙◌, arith}
use Rattle.std.proofs.lemmas.List.{drop_more, take-append-drop, length-take}

pub cut_at : {X : Type 0} (xs : List X) (i : ℕ) (x : X) → i < length xs → x ≡ get_or xs i x → xs ≡ take i xs ++ x ∷ drop (i + 1) xs
cut_at {X} xs i x lt item =
    sym (take-append-drop i xs) ∙ ap (λ (y : List X). take i xs ++ y) (drop_more xs i x lt ∙ ap (λ (y : X). y ∷ drop (i + 1) xs) (sym item))

pub as_many : {X : Type 0} (xs : List X) (i : ℕ) → i < length xs → length (take i xs) ≡ i
as_many xs i lt = omega (arith, length-take i xs)
