-- A path as it is written in a word, read back.
use Rattle.std.proofs.Common.{◌≡◌, ℕ, ◌/◌, ◌%◌, ◌<◌, Bool, true, false, not, ◌&&◌, ◌==◌, List, []}
use Rattle.std.proofs.Common.{◌∷◌, length, cond, refl, sym, ◌∙◌, ap, arith, codes, flat_map, nat_lt, nat_le, is_some}
use Rattle.std.proofs.Common.{Option, Some, None, true≢false}
use Rattle.std.specs.List.{list_all, list_any}
use Rattle.std.proofs.lemmas.Bool.{and_parts, and_from, agree_below_at, eqb-true, ltb-true, false_from_ne_true, not_from_false, ne_eqb}
use Rattle.aa_model.specs.Requests.{begins_with, is_path}
use Rattle.aa_base.specs.Hex.{hex_digit, hex_pair, digits_in}
use Rattle.aa_base.proofs.Digits.{bytes_back, digit_from_48}
use Rattle.aa_notation.specs.Parts.{place_of, are_bytes, is_path_of_bytes}
use Rattle.aa_notation.specs.Written.{is_visible, has_arrow, path_text}
use Rattle.aa_notation.specs.Read.{hex_in, path_in}
use Rattle.aa_notation.proofs.Splits.{not_true, no_arrow}

abbrev pub is_found : Option ℕ → ℕ → Bool
is_found None n = false
is_found (Some m) n = m == n

pub found_back : (o : Option ℕ) (n : ℕ) → is_found o n ≡ true → o ≡ Some n
found_back None n h = absurd (true≢false (sym h))
found_back (Some m) n h = ap (λ (k : ℕ). Some k) (eqb-true m n h)

capital_pair : (b : ℕ) → nat_lt b 256 ≡ true → (nat_lt (hex_digit (b / 16)) 97 && nat_lt (hex_digit (b % 16)) 97) ≡ true
capital_pair b h = agree_below_at (λ c. nat_lt (hex_digit (c / 16)) 97 && nat_lt (hex_digit (c % 16)) 97) (λ c. true) 256 b refl (ltb-true b 256 h)

capitals : (bytes : List ℕ) → are_bytes bytes ≡ true → list_all (λ c. nat_lt c 97) (flat_map hex_pair bytes) ≡ true
capitals [] h = refl
capitals (b ∷ bs) h =
    let both = and_parts (nat_lt b 256) (are_bytes bs) h in
    let two = and_parts (nat_lt (hex_digit (b / 16)) 97) (nat_lt (hex_digit (b % 16)) 97) (capital_pair b both.0) in
    let rest = list_all (λ (c : ℕ). nat_lt c 97) (flat_map hex_pair bs) in
    and_from (nat_lt (hex_digit (b / 16)) 97) (nat_lt (hex_digit (b % 16)) 97 && rest) two.0
    (and_from (nat_lt (hex_digit (b % 16)) 97) rest two.1 (capitals bs both.1))

pub hex_back : (bytes : List ℕ) → not (length bytes == 0) ≡ true → are_bytes bytes ≡ true → hex_in (flat_map hex_pair bytes) ≡ Some bytes
hex_back [] some h = absurd (true≢false (sym some))
hex_back (b ∷ bs) some h =
    ap (λ (t : Bool). cond t (digits_in (flat_map hex_pair (b ∷ bs))) None) (capitals (b ∷ bs) h) ∙ bytes_back (b ∷ bs) h

digit_is_no : (c n : ℕ) → c < 48 → (c == hex_digit n) ≡ false
digit_is_no c n h = false_from_ne_true (c == hex_digit n) (λ e. let same : c ≡ hex_digit n = eqb-true c (hex_digit n) e in omega (arith, digit_from_48 n))

no_slash : (n : ℕ) → (hex_digit n == 47) ≡ false
no_slash n = false_from_ne_true (hex_digit n == 47) (λ e. let same : hex_digit n ≡ 47 = eqb-true (hex_digit n) 47 e in omega (arith, digit_from_48 n))

hex_path : (path : List ℕ) → begins_with 47 path ≡ true → are_bytes path ≡ true → path_in (flat_map hex_pair path) ≡ Some path
hex_path [] b h = absurd (true≢false (sym b))
hex_path (b ∷ bs) begins h =
    ap (λ (t : Bool). cond t (Some (flat_map hex_pair (b ∷ bs))) (hex_in (flat_map hex_pair (b ∷ bs)))) (no_slash (b / 16))
    ∙ hex_back (b ∷ bs) (not_from_false (length (b ∷ bs) == 0) (ne_eqb (length (b ∷ bs)) 0 (λ e. omega (arith, e)))) h

path_begins : (path : List ℕ) → is_path path ≡ true → begins_with 47 path ≡ true
path_begins path h =
    let front = and_parts (begins_with 47 path && not (list_any (λ b. b == 0) path)) (nat_le (length path) 4095) h in
    (and_parts (begins_with 47 path) (not (list_any (λ b. b == 0) path)) front.0).0

path_by : (t : Bool) (path : List ℕ) → is_path_of_bytes path ≡ true → path_in (cond t path (flat_map hex_pair path)) ≡ Some path
path_by true path h =
    let parts = and_parts (are_bytes path) (is_path path) h in
    ap (λ (t : Bool). cond t (Some path) (hex_in path)) (path_begins path parts.1)
path_by false path h =
    let parts = and_parts (are_bytes path) (is_path path) h in
    hex_path path (path_begins path parts.1) parts.0

-- a path is read from its text
pub path_back : (ends : Bool) (path : List ℕ) → is_path_of_bytes path ≡ true → path_in (path_text ends path) ≡ Some path
path_back ends path h = path_by (list_all is_visible path && not (ends && has_arrow path)) path h

digits_dashless : (bytes : List ℕ) → list_all (λ b. not (45 == b)) (flat_map hex_pair bytes) ≡ true
digits_dashless [] = refl
digits_dashless (b ∷ bs) =
    let low : 45 < 48 = omega arith in
    let rest = list_all (λ (b : ℕ). not (45 == b)) (flat_map hex_pair bs) in
    and_from (not (45 == hex_digit (b / 16))) (not (45 == hex_digit (b % 16)) && rest) (ap not (digit_is_no 45 (b / 16) low))
    (and_from (not (45 == hex_digit (b % 16))) rest (ap not (digit_is_no 45 (b % 16) low)) (digits_dashless bs))

none_of : (o : Option ℕ) → is_some o ≡ false → o ≡ None
none_of None h = refl
none_of (Some n) h = absurd (true≢false h)

arrowless_by : (t : Bool) (path : List ℕ) → (list_all is_visible path && not (has_arrow path)) ≡ t → place_of (codes "->") (cond t path (flat_map hex_pair path)) ≡ None
arrowless_by true path e = none_of (place_of (codes "->") path) (not_true (has_arrow path) (and_parts (list_all is_visible path) (not (has_arrow path)) e).1)
arrowless_by false path e = no_arrow (flat_map hex_pair path) (digits_dashless path)

-- no arrow stands in a path that an arrow ends
pub arrowless : (path : List ℕ) → place_of (codes "->") (path_text true path) ≡ None
arrowless path = arrowless_by (list_all is_visible path && not (has_arrow path)) path refl
