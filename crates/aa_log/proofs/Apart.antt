-- What is printed of a request, read back.
use Rattle.std.proofs.Common.{◌≡◌, ℕ, ◌+◌, ◌-◌, ◌/◌, ◌%◌, ◌≤◌, Bool, true, false, not, ◌&&◌, ◌==◌, nat_le, List}
use Rattle.std.proofs.Common.{[], ◌∷◌, ◌++◌, length, take, cond, codes, flat_map, Option, Some, refl, sym, ap, ◌∙◌, arith, append_assoc, inl}
use Rattle.std.proofs.Common.{inr, true≢false}
use Rattle.std.specs.List.{list_all}
use Rattle.std.specs.Str.{bytes_eq}
use Rattle.std.proofs.lemmas.Bool.{cases_Bool, and_parts, eqb-true, leb-true, false_from_ne_true, not_from_false}
use Rattle.std.proofs.lemmas.List.{take_at, length-append}
use Rattle.aa_logs.specs.declared.line.Then.{Then}
use Rattle.aa_logs.specs.declared.line.Then.TheVariants as was
use Rattle.aa_logs.specs.Answers.{then_name}
use Rattle.aa_base.specs.Hex.{hex_digit, hex_pair, digits_in}
use Rattle.aa_base.specs.Values.{is_shown, quoted, value}
use Rattle.aa_notation.specs.Parts.{split_in, are_bytes}
use Rattle.aa_notation.specs.Kinds.{word_text, request_in, is_askable}
use Rattle.aa_notation.proofs.Splits.{split_byte}
use Rattle.aa_base.proofs.Digits.{bytes_back, digit_from_48}
use Rattle.aa_notation.proofs.Reading.{words_are_read}
use Rattle.aa_log.specs.Printed.{key_text}
use Rattle.aa_log.specs.Found.{Asked, asked_key}
use Rattle.aa_log.specs.Apart.{KeysTell}

-- what became of a request, by what it is called
then_of : List ℕ → Option Then
then_of text = cond (bytes_eq text (codes "DENIED")) (Some was.Denied) (cond (bytes_eq text (codes "ALLOWED")) (Some was.Allowed) (Some was.Granted))

then_back : (t : Then) → then_of (then_name t) ≡ Some t
unfolding then_of
then_back was.Denied = refl
then_back was.Allowed = refl
then_back was.Granted = refl

then_plain : (t : Then) → list_all (λ b. not (32 == b)) (then_name t) ≡ true
then_plain was.Denied = refl
then_plain was.Allowed = refl
then_plain was.Granted = refl

apart_from : (c b : ℕ) → c + 1 ≤ b → (c == b) ≡ false
apart_from c b le = false_from_ne_true (c == b) (λ e. let same : c ≡ b = eqb-true c b e in omega arith)

digit_plain : (n : ℕ) → not (32 == hex_digit n) ≡ true
digit_plain n = not_from_false _ (apart_from 32 (hex_digit n) (omega (arith, digit_from_48 n)))

digits_plain : (bytes : List ℕ) → list_all (λ b. not (32 == b)) (flat_map hex_pair bytes) ≡ true
digits_plain [] = refl
digits_plain (b ∷ bs) = rw digit_plain (rw digit_plain (digits_plain bs))

shown_from_33 : (b : ℕ) → is_shown b ≡ true → 33 ≤ b
shown_from_33 b h = leb-true 33 b (and_parts (nat_le 33 b) (nat_le b 126) (and_parts (nat_le 33 b && nat_le b 126) (not (b == 34)) h).0).0

shown_plain : (bytes : List ℕ) → list_all is_shown bytes ≡ true → list_all (λ b. not (32 == b)) (bytes ++ 34 ∷ []) ≡ true
shown_plain [] h = refl
shown_plain (b ∷ bs) h =
    let both = and_parts (is_shown b) (list_all is_shown bs) h in
    let plain : not (32 == b) ≡ true = not_from_false _ (apart_from 32 b (omega (arith, shown_from_33 b both.0))) in
    rw plain (shown_plain bs both.1)

value_plain : (bytes : List ℕ) → list_all (λ b. not (32 == b)) (value bytes) ≡ true
unfolding value quoted
value_plain bytes = elim (cases_Bool (list_all is_shown bytes)) [
  | inl all ↦ rw all (shown_plain bytes all)
  | inr some ↦ rw some (digits_plain bytes)
]

-- the bytes of a value: those between quotes, or those that digits are
value_of : List ℕ → Option (List ℕ)
value_of [] = digits_in []
value_of (b ∷ bs) = cond (34 == b) (Some (take (length bs - 1) bs)) (digits_in (b ∷ bs))

quoted_back : (bytes : List ℕ) → value_of (quoted bytes) ≡ Some bytes
unfolding value_of quoted
quoted_back bytes = ap Some (take_at bytes (34 ∷ []) (length (bytes ++ 34 ∷ []) - 1) (let long : length (bytes ++ 34 ∷ []) ≡ length bytes + 1 = length-append bytes (34 ∷ []) in omega arith))

digits_back : (bytes : List ℕ) → list_all is_shown bytes ≡ false → are_bytes bytes ≡ true → value_of (flat_map hex_pair bytes) ≡ Some bytes
unfolding value_of
digits_back [] none h = absurd (true≢false none)
digits_back (b ∷ bs) some h =
    ap (λ (t : Bool). cond t (Some (take (length (hex_digit (b % 16) ∷ flat_map hex_pair bs) - 1) (hex_digit (b % 16) ∷ flat_map hex_pair bs)))
    (digits_in (flat_map hex_pair (b ∷ bs)))) (apart_from 34 (hex_digit (b / 16)) (omega (arith, digit_from_48 (b / 16)))) ∙ bytes_back (b ∷ bs) h

value_back : (bytes : List ℕ) → are_bytes bytes ≡ true → value_of (value bytes) ≡ Some bytes
unfolding value
value_back bytes h = elim (cases_Bool (list_all is_shown bytes)) [
  | inl all ↦ rw all (quoted_back bytes)
  | inr some ↦ rw some (digits_back bytes some h)
]

-- a key is what stands before its first space, what stands before the second, and the rest
abbrev key_parts : Then → List ℕ → List ℕ → List ℕ
key_parts t v w = (then_name t ++ 32 ∷ []) ++ ((v ++ 32 ∷ []) ++ w)

key_is : (a : Asked) → asked_key a ≡ key_parts a.became (value a.profile) (word_text a.request)
unfolding key_text
key_is a =
    append_assoc ((then_name a.became ++ 32 ∷ []) ++ value a.profile) (32 ∷ []) (word_text a.request)
    ∙ append_assoc (then_name a.became ++ 32 ∷ []) (value a.profile) (32 ∷ word_text a.request)
    ∙ ap (λ (l : List ℕ). (then_name a.became ++ 32 ∷ []) ++ l) (sym (append_assoc (value a.profile) (32 ∷ []) (word_text a.request)))

some_is : {A : Type 0} (x y : A) → Some x ≡ Some y → x ≡ y
some_is x y e = cc

-- two texts of which neither has a space, and what stands behind the space that follows
split_apart : (xs ys us vs : List ℕ) → list_all (λ b. not (32 == b)) xs ≡ true → list_all (λ b. not (32 == b)) us ≡ true → (xs ++ 32 ∷ []) ++ ys ≡ (us ++ 32 ∷ []) ++ vs → (xs ≡ us) × (ys ≡ vs)
split_apart xs ys us vs h k e =
    let x : List ℕ × List ℕ = (xs, ys) in
    let u : List ℕ × List ℕ = (us, vs) in
    let same = some_is x u (sym (split_byte 32 xs ys refl h) ∙ ap (split_in (32 ∷ [])) e ∙ split_byte 32 us vs refl k) in
    (ap (λ (z : List ℕ × List ℕ). z.0) same, ap (λ (z : List ℕ × List ℕ). z.1) same)

pub keys_tell : KeysTell
keys_tell a b can_a can_b e =
    let of_a = and_parts (are_bytes a.profile) (is_askable a.request) can_a in
    let of_b = and_parts (are_bytes b.profile) (is_askable b.request) can_b in
    let first = split_apart (then_name a.became) ((value a.profile ++ 32 ∷ []) ++ word_text a.request) (then_name b.became)
    ((value b.profile ++ 32 ∷ []) ++ word_text b.request) (then_plain a.became) (then_plain b.became) (sym (key_is a) ∙ e ∙ key_is b) in
    let second = split_apart (value a.profile) (word_text a.request) (value b.profile) (word_text b.request) (value_plain a.profile) (value_plain b.profile) first.1 in (
      some_is a.became b.became (sym (then_back a.became) ∙ ap then_of first.0 ∙ then_back b.became),
      some_is a.profile b.profile (sym (value_back a.profile of_a.0) ∙ ap value_of second.0 ∙ value_back b.profile of_b.0),
      some_is a.request b.request (sym (words_are_read a.request of_a.1) ∙ ap (request_in false) second.1 ∙ words_are_read b.request of_b.1),
    )
