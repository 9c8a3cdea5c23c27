-- Hexadecimal digits, read two by two, and what was written of bytes read back.
use Rattle.std.proofs.Common.{◌≡◌, ℕ, ◌+◌, ◌-◌, ◌*◌, ◌/◌, ◌%◌, ◌<◌, ◌≤◌, Bool, true, false, ◌&&◌, List, [], ◌∷◌, ◌++◌}
use Rattle.std.proofs.Common.{length, take, drop, get_or, refl, sym, ◌∙◌, ap, arith, append_assoc, flat_map, nat_eq, nat_lt, cond, Option, Some, None}
use Rattle.std.proofs.lemmas.List.{take_all, append-nil}
use Rattle.std.proofs.lemmas.Bool.{and_parts, and_from, agree_below_at, eqb-true, ltb-true}
use Rattle.std.specs.List.{list_all}
use Rattle.aa_base.specs.Hex.{hex_digit, hex_pair, is_hex_digit, digit_of, bytes_of_hex, is_even, is_hex, digits_in}

rest_is : (a b : ℕ) (rest : List ℕ) → take (length (a ∷ b ∷ rest) - 2) (drop 2 (a ∷ b ∷ rest)) ≡ rest
rest_is a b rest = take_all (length (a ∷ b ∷ rest) - 2) rest (omega arith)

later_pass : (p q r : Bool) → (p && (q && r)) ≡ true → r ≡ true
later_pass true true r h = h
later_pass true false r h = absurd cc
later_pass false q r h = absurd cc

-- behind two digits there are digits
pub digits_left : (s : List ℕ) → 2 ≤ length s → list_all is_hex_digit s ≡ true → list_all is_hex_digit (take (length s - 2) (drop 2 s)) ≡ true
digits_left [] h all = absurd (omega arith)
digits_left (a ∷ []) h all = absurd (omega arith)
digits_left (a ∷ b ∷ rest) h all = rw (rest_is a b rest) (later_pass (is_hex_digit a) (is_hex_digit b) (list_all is_hex_digit rest) all)

-- a byte that was made is the next one
pub byte_made : (s old new t : List ℕ) (x y : ℕ) → 2 ≤ length s → x ≡ digit_of (get_or s 0 0) → y ≡ digit_of (get_or s 1 0)
    → new ≡ old ++ (16 * x + y) ∷ [] → old ++ bytes_of_hex s ≡ t → new ++ bytes_of_hex (take (length s - 2) (drop 2 s)) ≡ t
unfolding bytes_of_hex
byte_made [] old new t x y h e f pushed made = absurd (omega arith)
byte_made (a ∷ []) old new t x y h e f pushed made = absurd (omega arith)
byte_made (a ∷ b ∷ rest) old new t x y h e f pushed made =
    rw (rest_is a b rest, pushed, append_assoc, e, f) made

-- of less than two digits no byte is made
none_left : (s : List ℕ) → length s < 2 → bytes_of_hex s ≡ []
unfolding bytes_of_hex
none_left [] h = refl
none_left (a ∷ []) h = refl
none_left (a ∷ b ∷ rest) h = absurd (omega arith)

pub all_made : (s old t : List ℕ) → length s < 2 → old ++ bytes_of_hex s ≡ t → old ≡ t
all_made s old t h made = sym (append-nil old) ∙ (ap (λ (u : List ℕ). old ++ u) (sym (none_left s h)) ∙ made)

right_of : (p q : Bool) → (p && q) ≡ true → q ≡ true
right_of true q h = h
right_of false q h = absurd cc

-- what is hexadecimal has hexadecimal digits
pub hex_digits : (r : Bool) (text : List ℕ) → r ≡ is_hex text → r ≡ true → list_all is_hex_digit text ≡ true
hex_digits r text e h = right_of (is_even text) (list_all is_hex_digit text) (sym e ∙ h)

pub digit_from_48 : (n : ℕ) → 48 ≤ hex_digit n
digit_from_48 n = low (nat_lt n 10)
  where
    low : (t : Bool) → 48 ≤ cond t (48 + n) (65 + (n - 10))
    low true = omega arith
    low false = omega arith

-- two digits are the byte that they were made of
byte_back : (b : ℕ) → nat_lt b 256 ≡ true → 16 * digit_of (hex_digit (b / 16)) + digit_of (hex_digit (b % 16)) ≡ b
byte_back b h =
    eqb-true (16 * digit_of (hex_digit (b / 16)) + digit_of (hex_digit (b % 16))) b
    (agree_below_at (λ c. nat_eq (16 * digit_of (hex_digit (c / 16)) + digit_of (hex_digit (c % 16))) c) (λ c. true) 256 b refl (ltb-true b 256 h))

digits_are : (b : ℕ) → nat_lt b 256 ≡ true → (is_hex_digit (hex_digit (b / 16)) && is_hex_digit (hex_digit (b % 16))) ≡ true
digits_are b h = agree_below_at (λ c. is_hex_digit (hex_digit (c / 16)) && is_hex_digit (hex_digit (c % 16))) (λ c. true) 256 b refl (ltb-true b 256 h)

pub made_back : (bytes : List ℕ) → list_all (λ b. nat_lt b 256) bytes ≡ true → bytes_of_hex (flat_map hex_pair bytes) ≡ bytes
unfolding bytes_of_hex
made_back [] h = refl
made_back (b ∷ bs) h =
    let both = and_parts (nat_lt b 256) (list_all (λ b. nat_lt b 256) bs) h in
    ap (λ (n : ℕ). n ∷ bytes_of_hex (flat_map hex_pair bs)) (byte_back b both.0) ∙ ap (λ (t : List ℕ). b ∷ t) (made_back bs both.1)

pairs_even : (bytes : List ℕ) → is_even (flat_map hex_pair bytes) ≡ true
pairs_even [] = refl
pairs_even (b ∷ bs) = pairs_even bs

pairs_digits : (bytes : List ℕ) → list_all (λ b. nat_lt b 256) bytes ≡ true → list_all is_hex_digit (flat_map hex_pair bytes) ≡ true
pairs_digits [] h = refl
pairs_digits (b ∷ bs) h =
    let both = and_parts (nat_lt b 256) (list_all (λ b. nat_lt b 256) bs) h in
    let two = and_parts (is_hex_digit (hex_digit (b / 16))) (is_hex_digit (hex_digit (b % 16))) (digits_are b both.0) in
    and_from (is_hex_digit (hex_digit (b / 16))) (is_hex_digit (hex_digit (b % 16)) && list_all is_hex_digit (flat_map hex_pair bs)) two.0
    (and_from (is_hex_digit (hex_digit (b % 16))) (list_all is_hex_digit (flat_map hex_pair bs)) two.1 (pairs_digits bs both.1))

-- what was written of bytes is hexadecimal, and those bytes
pub pairs_hex : (bytes : List ℕ) → list_all (λ b. nat_lt b 256) bytes ≡ true → is_hex (flat_map hex_pair bytes) ≡ true
pairs_hex bytes h = and_from (is_even (flat_map hex_pair bytes)) (list_all is_hex_digit (flat_map hex_pair bytes)) (pairs_even bytes) (pairs_digits bytes h)

pub bytes_back : (bytes : List ℕ) → list_all (λ b. nat_lt b 256) bytes ≡ true → digits_in (flat_map hex_pair bytes) ≡ Some bytes
bytes_back bytes h =
    let of : Bool → Option (List ℕ) = λ t. cond t (Some (bytes_of_hex (flat_map hex_pair bytes))) None in
    ap of (pairs_hex bytes h) ∙ ap Some (made_back bytes h)
