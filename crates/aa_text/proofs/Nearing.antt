-- With how many bytes two texts begin, byte by byte.
use Rattle.std.proofs.Common.{◌≡◌, ℕ, ◌+◌, ◌<◌, ◌≤◌, Bool, true, false, List, [], ◌∷◌, length, drop, get_or, cond, refl, ap, ◌∙◌, arith, add-one}
use Rattle.std.specs.Prelude.{◌==◌}
use Rattle.std.proofs.Math.Seq.{drop-cons}
use Rattle.std.proofs.lemmas.List.{drop_all}
use Rattle.aa_text.specs.Nearest.{common}

step : (x y : ℕ) (xs ys : List ℕ) → (x == y) ≡ true → common (x ∷ xs) (y ∷ ys) ≡ 1 + common xs ys
unfolding common
step x y xs ys same = ap (λ (b : Bool). cond b (1 + common xs ys) 0) same

stop : (x y : ℕ) (xs ys : List ℕ) → (x == y) ≡ false → common (x ∷ xs) (y ∷ ys) ≡ 0
unfolding common
stop x y xs ys other = ap (λ (b : Bool). cond b (1 + common xs ys) 0) other

none : (xs : List ℕ) → common xs [] ≡ 0
unfolding common
none [] = refl
none (x ∷ xs) = refl

nothing : (ys : List ℕ) → common [] ys ≡ 0
unfolding common
nothing ys = refl

heads : (xs ys : List ℕ) (i : ℕ) → i < length xs → i < length ys
    → common (drop i xs) (drop i ys) ≡ common (get_or xs i 0 ∷ drop (i + 1) xs) (get_or ys i 0 ∷ drop (i + 1) ys)
heads xs ys i lx ly =
    let e : drop i xs ≡ get_or xs i 0 ∷ drop (i + 1) xs = rw (add-one i) (drop-cons xs i 0 lx) in
    let f : drop i ys ≡ get_or ys i 0 ∷ drop (i + 1) ys = rw (add-one i) (drop-cons ys i 0 ly) in
    ap (λ (l : List ℕ). common l (drop i ys)) e ∙ ap (common (get_or xs i 0 ∷ drop (i + 1) xs)) f

-- both go on alike
pub goes_on : (xs ys : List ℕ) (i : ℕ) → i < length xs → i < length ys → (get_or xs i 0 == get_or ys i 0) ≡ true
    → common xs ys ≡ i + common (drop i xs) (drop i ys) → common xs ys ≡ (i + 1) + common (drop (i + 1) xs) (drop (i + 1) ys)
goes_on xs ys i lx ly same so_far =
    let one : common (drop i xs) (drop i ys) ≡ 1 + common (drop (i + 1) xs) (drop (i + 1) ys) =
    heads xs ys i lx ly ∙ step (get_or xs i 0) (get_or ys i 0) (drop (i + 1) xs) (drop (i + 1) ys) same in
    omega (arith, one, so_far)

-- both go on differently
pub ends_apart : (xs ys : List ℕ) (i : ℕ) → i < length xs → i < length ys → (get_or xs i 0 == get_or ys i 0) ≡ false
    → common xs ys ≡ i + common (drop i xs) (drop i ys) → i ≡ common xs ys
ends_apart xs ys i lx ly other so_far =
    let none_more : common (drop i xs) (drop i ys) ≡ 0 =
    heads xs ys i lx ly ∙ stop (get_or xs i 0) (get_or ys i 0) (drop (i + 1) xs) (drop (i + 1) ys) other in
    omega (arith, none_more, so_far)

-- the second ends
pub ends_second : (xs ys : List ℕ) (i : ℕ) → length ys ≤ i → common xs ys ≡ i + common (drop i xs) (drop i ys) → i ≡ common xs ys
ends_second xs ys i le so_far =
    let none_more : common (drop i xs) (drop i ys) ≡ 0 = ap (common (drop i xs)) (drop_all i ys le) ∙ none (drop i xs) in
    omega (arith, none_more, so_far)

-- the first ends
pub ends_first : (xs ys : List ℕ) (i : ℕ) → length xs ≤ i → common xs ys ≡ i + common (drop i xs) (drop i ys) → i ≡ common xs ys
ends_first xs ys i le so_far =
    let none_more : common (drop i xs) (drop i ys) ≡ 0 = ap (λ (l : List ℕ). common l (drop i ys)) (drop_all i xs le) ∙ nothing (drop i ys) in
    omega (arith, none_more, so_far)
