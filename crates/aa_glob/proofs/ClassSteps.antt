-- The ranges and the flags of a class, one after the other.
use Rattle.std.proofs.Common.{◌≡◌, ℕ, zero, suc, ◌+◌, ◌<◌, ◌≤◌, Bool, true, false, List, [], ◌∷◌, ◌++◌, length, take, drop}
use Rattle.std.proofs.Common.{get_or, cond, refl, arith, sym, ap, ◌∙◌, append_assoc, ◌&&◌, lt-ltb, Some, None}
use Rattle.std.specs.List.{list_all}
use Rattle.std.proofs.lemmas.Bool.{cases_lt}
use Rattle.std.proofs.lemmas.List.{drop_more, take_more, take_all, length-drop, at_drop_all, append-nil}
use Rattle.aa_glob.specs.declared.sign.Sign.{Sign}
use Rattle.aa_glob.specs.declared.sign.Range.{Range}
use Rattle.aa_glob.specs.Classes.{ranges, is_range, is_rising, only, is_listed, flags_below, class_of}
use Rattle.aa_pattern.specs.declared.item.Item.{Class}

ranges_three : (x y z : Sign) (rest : List Sign) → is_range x y z ≡ true → ranges (x ∷ y ∷ z ∷ rest) ≡ record { first = x.byte; last = z.byte } ∷ ranges rest
unfolding ranges
ranges_three x y z rest e = ap (λ b. cond b (record { first = x.byte; last = z.byte } ∷ ranges rest) (only x ∷ ranges (y ∷ z ∷ rest))) e

ranges_two : (x y z : Sign) (rest : List Sign) → is_range x y z ≡ false → ranges (x ∷ y ∷ z ∷ rest) ≡ only x ∷ ranges (y ∷ z ∷ rest)
unfolding ranges
ranges_two x y z rest e = ap (λ b. cond b (record { first = x.byte; last = z.byte } ∷ ranges rest) (only x ∷ ranges (y ∷ z ∷ rest))) e

ranges_short : (x : Sign) (rest : List Sign) → length rest < 2 → ranges (x ∷ rest) ≡ only x ∷ ranges rest
unfolding ranges
ranges_short x [] h = refl
ranges_short x (y ∷ []) h = refl
ranges_short x (y ∷ z ∷ rest) h = absurd (omega arith)

plus : (i a b c : ℕ) → a + b ≡ c → i + a + b ≡ i + c
plus i a b c e = omega arith

three : (s : List Sign) (i : ℕ) (d : Sign) → i + 2 < length s → drop i s ≡ get_or s i d ∷ get_or s (i + 1) d ∷ get_or s (i + 2) d ∷ drop (i + 3) s
three s i d h = grind (arith, drop_more, plus)

two : (s : List Sign) (i : ℕ) (d : Sign) → i + 2 < length s → drop (i + 1) s ≡ get_or s (i + 1) d ∷ get_or s (i + 2) d ∷ drop (i + 3) s
two s i d h = grind (arith, drop_more, plus)

-- a range comes next
pub range_next : (front all : List Range) (s : List Sign) (i : ℕ) (d : Sign) → i + 2 < length s →
    is_range (get_or s i d) (get_or s (i + 1) d) (get_or s (i + 2) d) ≡ true → front ++ ranges (drop i s) ≡ all →
    (front ++ record { first = (get_or s i d).byte; last = (get_or s (i + 2) d).byte } ∷ []) ++ ranges (drop (i + 3) s) ≡ all
range_next front all s i d h e so_far = grind (arith, append_assoc, ranges_three, three)

flags_taken : (negated : Bool) (rs : List Range) (n : ℕ) (xs : List Bool) → n ≤ length xs →
    ((k : ℕ) → k < n → get_or xs k false ≡ is_listed negated rs k) → take n xs ≡ flags_below negated rs n
unfolding flags_below
flags_taken negated rs zero [] h each = refl
flags_taken negated rs zero (x ∷ xs) h each = refl
flags_taken negated rs (suc n) xs h each =
    let lt : n < length xs = omega arith in let le : n ≤ length xs = omega arith in
    let plus : suc n ≡ n + 1 = omega arith in
    ap (λ m. take m xs) plus ∙ take_more xs n false lt
    ∙ ap (λ front. front ++ get_or xs n false ∷ []) (flags_taken negated rs n xs le (λ k lk. each k (omega arith)))
    ∙ ap (λ b. flags_below negated rs n ++ b ∷ []) (each n (omega arith))

-- the flags of all bytes
pub flags_same : (negated : Bool) (rs : List Range) (n : ℕ) (xs : List Bool) → length xs ≡ n →
    ((k : ℕ) → k < n → get_or xs k false ≡ is_listed negated rs k) → xs ≡ flags_below negated rs n
flags_same negated rs n xs long each = sym (take_all n xs (omega arith)) ∙ flags_taken negated rs n xs (omega arith) each

-- a sign that stands for itself comes next
pub one_next : (front all : List Range) (s : List Sign) (i : ℕ) (d : Sign) → i < length s →
    (i + 2 < length s → is_range (get_or s i d) (get_or s (i + 1) d) (get_or s (i + 2) d) ≡ false) → front ++ ranges (drop i s) ≡ all →
    (front ++ record { first = (get_or s i d).byte; last = (get_or s i d).byte } ∷ []) ++ ranges (drop (i + 1) s) ≡ all
one_next front all s i d h none inv = grind (arith, append_assoc, cases_lt, drop_more, length-drop, ranges_two, ranges_short, two)

pub ranges_done : (front all : List Range) (s : List Sign) (i : ℕ) → length s ≤ i → front ++ ranges (drop i s) ≡ all → all ≡ front
unfolding ranges
ranges_done front all s i h inv = sym inv ∙ at_drop_all (λ r. front ++ ranges r) s i h ∙ append-nil front

and_true : (a b : Bool) → a ≡ true → b ≡ true → (a && b) ≡ true
and_true true b p q = q
and_true false b p q = p

pub class_same : (negated : Bool) (body : List Sign) (rs : List Range) (set : List Bool) → 0 < length body → list_all is_rising rs ≡ true → ranges body ≡ rs →
    set ≡ flags_below negated rs 256 → class_of negated body ≡ Some (Class set)
unfolding class_of
class_same negated body rs set pos rise e f = grind (arith, lt-ltb, and_true)

and_false : (a b : Bool) → b ≡ false → (a && b) ≡ false
and_false true b q = q
and_false false b q = refl

pub class_empty : (negated : Bool) (body : List Sign) → length body ≤ 0 → class_of negated body ≡ None
unfolding class_of
class_empty negated [] h = refl
class_empty negated (s ∷ ss) h = absurd (omega arith)

pub class_falls : (negated : Bool) (body : List Sign) (rs : List Range) → list_all is_rising rs ≡ false → ranges body ≡ rs → class_of negated body ≡ None
unfolding class_of
class_falls negated body rs falls e = grind (arith, and_false)
