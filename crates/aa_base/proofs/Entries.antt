-- Entries of tables of names and their numbers.
use Rattle.std.proofs.Common.{◌≡◌, ℕ, ◌+◌, ◌<◌, List, [], ◌∷◌, map, length, get_or, Bool, true, false, cond, Some, None, refl, sym, ap, ◌∙◌, arith, rules, tests, bytes_eq}
use Rattle.std.specs.Prelude.{not, ◌&&◌, nat_lt, slice_get}
use Rattle.std.specs.List.{position, prefix_len, position_or_len, list_any, IsDistinct, AllByRecursion}
use Rattle.std.specs.Cmp.Lexicographic.{nat_list_eq_equiv}
use Rattle.std.proofs.lemmas.Bool.{or_parts}
use Rattle.std.proofs.lemmas.List.{length-map}
use Rattle.std.proofs.lemmas.List.Sums.{position_or_len_is}
use Rattle.std.proofs.lemmas.Map.Keys.{apart_from_distinct}
use Rattle.std.proofs.lemmas.Option.{slice_get_within, get_or_from_slice_get}
use Rattle.aa_base.specs.Tables.{number_in}

prefix_len-map : {X Y : Type 0} (f : X → Y) (p : Y → Bool) (xs : List X) → prefix_len (λ x. p (f x)) xs ≡ prefix_len p (map f xs)
prefix_len-map f p [] = refl
prefix_len-map f p (x ∷ xs) = ap (λ (n : ℕ). cond (p (f x)) (1 + n) 0) (prefix_len-map f p xs)

-- the place of the first of some things that has a name is the number of the name
pub number_in-map : {X : Type 0} (f : X → List ℕ) (xs : List X) (name : List ℕ) → position (λ x. bytes_eq (f x) name) xs ≡ number_in (map f xs) name
number_in-map f xs name =
    ap (λ (n : ℕ). cond (nat_lt n (length xs)) (Some n) None) (prefix_len-map f (λ entry. not (bytes_eq entry name)) xs)
    ∙ ap (λ (l : ℕ). cond (nat_lt (position_or_len (λ entry. bytes_eq entry name) (map f xs)) l) (Some (position_or_len (λ entry. bytes_eq entry name) (map f xs))) None) (sym (length-map xs f))

-- whether no name stands twice
unfoldable pub all_differ : List (List ℕ) → Bool
all_differ [] = true
all_differ (x ∷ xs) = not (list_any (bytes_eq x) xs) && all_differ xs

both_hold : (a b : Bool) → (not a && b) ≡ true → (a ≡ false) × (b ≡ true)
both_hold true b e = absurd cc
both_hold false b e = (refl, e)

none_equal : (x : List ℕ) (ys : List (List ℕ)) → list_any (bytes_eq x) ys ≡ false → AllByRecursion (λ y. bytes_eq x y ≡ false) ys
none_equal x [] h = tt
none_equal x (y ∷ ys) h =
    let both = or_parts (bytes_eq x y) (list_any (bytes_eq x) ys) h in
    (both.0, none_equal x ys both.1)

distinct : (table : List (List ℕ)) → all_differ table ≡ true → IsDistinct bytes_eq table
unfolding all_differ IsDistinct
distinct [] h = tt
distinct (x ∷ xs) h =
    let both = both_hold (list_any (bytes_eq x) xs) (all_differ xs) h in
    (none_equal x xs both.0, distinct xs both.1)

-- names that differ are found at their places
pub found_at : (table : List (List ℕ)) (n : ℕ) (name : List ℕ) → all_differ table ≡ true → slice_get table n ≡ Some name → number_in table name ≡ Some n
found_at table n name d e =
    let within : n < length table = slice_get_within table n name e in
    let here : get_or table n [] ≡ name = get_or_from_slice_get table n name [] e in
    let before : (k : ℕ) → k < n → bytes_eq (get_or table k []) name ≡ false =
    λ k h. ap (bytes_eq (get_or table k [])) (sym here) ∙ apart_from_distinct bytes_eq table k n [] (distinct table d) h within in
    let first : position_or_len (λ entry. bytes_eq entry name) table ≡ n =
    position_or_len_is (λ entry. bytes_eq entry name) table n [] (omega arith) before (λ _. ap (λ (entry : List ℕ). bytes_eq entry name) here ∙ nat_list_eq_equiv.refl name) in
    ap (λ (m : ℕ). cond (nat_lt m (length table)) (Some m) None) first ∙ search (rules, tests)
