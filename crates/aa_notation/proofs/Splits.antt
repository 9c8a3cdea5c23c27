-- A part that is put between two texts is found there.
use Rattle.std.proofs.Common.{◌≡◌, ℕ, suc, ◌+◌, Bool, true, false, not, ◌&&◌, ◌==◌, List, [], ◌∷◌, ◌++◌, length, take, drop, cond}
use Rattle.std.proofs.Common.{refl, sym, ◌∙◌, ap, arith, append_assoc, codes, nat_eq, option_map, Option, Some, None, true≢false}
use Rattle.std.specs.List.{list_all, starts_with}
use Rattle.std.specs.Cmp.Lexicographic.{pointwise}
use Rattle.std.proofs.lemmas.Bool.{and_parts, and_right}
use Rattle.aa_notation.specs.Parts.{place_of, split_in, behind}

pub not_true : (t : Bool) → not t ≡ true → t ≡ false
not_true true h = absurd (true≢false (sym h))
not_true false h = refl

pub take_front : (xs ys : List ℕ) → take (length xs) (xs ++ ys) ≡ xs
take_front [] ys = refl
take_front (x ∷ xs) ys = ap (λ (t : List ℕ). x ∷ t) (take_front xs ys)

pub drop_front : (xs ys : List ℕ) → drop (length xs) (xs ++ ys) ≡ ys
drop_front [] ys = refl
drop_front (x ∷ xs) ys = drop_front xs ys

pub length_of : (xs ys : List ℕ) → length (xs ++ ys) ≡ length xs + length ys
length_of [] ys = omega arith
length_of (x ∷ xs) ys = omega (arith, length_of xs ys)

split_there : (part xs ys : List ℕ) → place_of part (xs ++ (part ++ ys)) ≡ Some (length xs) → split_in part (xs ++ (part ++ ys)) ≡ Some (xs, ys)
split_there part xs ys e =
    let text = xs ++ (part ++ ys) in
    ap (λ (o : Option ℕ). option_map (λ n. (take n text, drop (n + length part) text)) o) e
    ∙ (ap (λ (t : List ℕ). Some (t, drop (length xs + length part) text)) (take_front xs (part ++ ys))
    ∙ (ap (λ (n : ℕ). Some (xs, drop n text)) (sym (length_of xs part))
    ∙ (ap (λ (t : List ℕ). Some (xs, drop (length (xs ++ part)) t)) (sym (append_assoc xs part ys))
    ∙ ap (λ (t : List ℕ). Some (xs, t)) (drop_front (xs ++ part) ys))))

next_place : (n : ℕ) → n + 1 ≡ suc n
next_place n = omega arith

-- a byte that the front lacks
byte_place : (c : ℕ) (xs ys : List ℕ) → (c == c) ≡ true → list_all (λ b. not (c == b)) xs ≡ true → place_of (c ∷ []) (xs ++ c ∷ ys) ≡ Some (length xs)
unfolding place_of
byte_place c [] ys same h = ap (λ (t : Bool). cond (t && true) (Some 0) (option_map (λ n. n + 1) (place_of (c ∷ []) ys))) same
byte_place c (x ∷ xs) ys same h =
    let both = and_parts (not (c == x)) (list_all (λ b. not (c == b)) xs) h in
    ap (λ (t : Bool). cond (t && true) (Some 0) (option_map (λ n. n + 1) (place_of (c ∷ []) (xs ++ c ∷ ys)))) (not_true (c == x) both.0)
    ∙ (ap (λ (o : Option ℕ). option_map (λ n. n + 1) o) (byte_place c xs ys same both.1)
    ∙ ap (λ (n : ℕ). Some n) (next_place (length xs)))

pub split_byte : (c : ℕ) (xs ys : List ℕ) → (c == c) ≡ true → list_all (λ b. not (c == b)) xs ≡ true → split_in (c ∷ []) ((xs ++ c ∷ []) ++ ys) ≡ Some (xs, ys)
split_byte c xs ys same h = ap (split_in (c ∷ [])) (append_assoc xs (c ∷ []) ys) ∙ split_there (c ∷ []) xs ys (byte_place c xs ys same h)

none_before : (t : Bool) (o : Option ℕ) → cond t (Some 0) (option_map (λ n. n + 1) o) ≡ None → (t ≡ false) × (o ≡ None)
none_before true o e = absurd cc
none_before false None e = (refl, refl)
none_before false (Some n) e = absurd cc

-- an arrow that the front lacks: its last byte and the arrow's first make none
arrow_place : (xs ys : List ℕ) → place_of (codes "->") xs ≡ None → place_of (codes "->") (xs ++ 45 ∷ 62 ∷ ys) ≡ Some (length xs)
unfolding place_of
arrow_place [] ys h = refl
arrow_place (x ∷ []) ys h = ap (λ (t : Bool). cond t (Some 0) (Some 1)) (and_right (45 == x) false refl)
arrow_place (x ∷ y ∷ xs) ys h =
    let both = none_before (starts_with nat_eq (x ∷ y ∷ xs) (codes "->")) (place_of (codes "->") (y ∷ xs)) h in
    ap (λ (t : Bool). cond t (Some 0) (option_map (λ n. n + 1) (place_of (codes "->") ((y ∷ xs) ++ 45 ∷ 62 ∷ ys)))) both.0
    ∙ (ap (λ (o : Option ℕ). option_map (λ n. n + 1) o) (arrow_place (y ∷ xs) ys both.1)
    ∙ ap (λ (n : ℕ). Some n) (next_place (length (y ∷ xs))))

pub split_arrow : (xs ys : List ℕ) → place_of (codes "->") xs ≡ None → split_in (codes "->") ((xs ++ codes "->") ++ ys) ≡ Some (xs, ys)
split_arrow xs ys h = ap (split_in (codes "->")) (append_assoc xs (codes "->") ys) ∙ split_there (codes "->") xs ys (arrow_place xs ys h)

-- where no byte begins an arrow there is none
pub no_arrow : (xs : List ℕ) → list_all (λ b. not (45 == b)) xs ≡ true → place_of (codes "->") xs ≡ None
unfolding place_of
no_arrow [] h = refl
no_arrow (x ∷ xs) h =
    let both = and_parts (not (45 == x)) (list_all (λ b. not (45 == b)) xs) h in
    ap (λ (t : Bool). cond (t && pointwise nat_eq (62 ∷ []) (take 1 xs)) (Some 0) (option_map (λ n. n + 1) (place_of (codes "->") xs))) (not_true (45 == x) both.0)
    ∙ ap (λ (o : Option ℕ). option_map (λ n. n + 1) o) (no_arrow xs both.1)

-- what begins with another byte doesn't begin so
pub not_behind : (f : ℕ) (fs : List ℕ) (b : ℕ) (rest : List ℕ) → (f == b) ≡ false → behind (f ∷ fs) (b ∷ rest) ≡ None
not_behind f fs b rest e = ap (λ (t : Bool). cond (t && pointwise nat_eq fs (take (length fs) rest)) (Some (drop (length (f ∷ fs)) (b ∷ rest))) None) e
