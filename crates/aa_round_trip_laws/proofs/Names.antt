-- A name between quotes or in hexadecimal digits, read back.
use Rattle.std.proofs.Common.{◌≡◌, ℕ, ◌-◌, ◌/◌, ◌%◌, ◌≤◌, Bool, true, false, not, ◌&&◌, ◌||◌, ◌==◌}
use Rattle.std.proofs.Common.{List, [], ◌∷◌, cond, refl, ◌∙◌, ap, flat_map, nat_le, true≢false}
use Rattle.std.specs.List.{list_all}
use Rattle.std.proofs.lemmas.Bool.{and_parts, and_from, or_from, le-leb}
use Rattle.aa_base.specs.Hex.{hex_digit, hex_pair, bytes_of_hex}
use Rattle.aa_base.specs.Values.{is_shown, quoted, value}
use Rattle.aa_base.proofs.Digits.{digit_from_48, pairs_hex, made_back}
use Rattle.aa_audit.specs.Keys.{key}
use Rattle.aa_logs.specs.declared.word.Form.TheVariants.{Quoted, Plain}
use Rattle.aa_logs.specs.Words.{WordData}
use Rattle.aa_logs.specs.Values.{name_in}
use Rattle.aa_notation.specs.Parts.{are_bytes}
use Rattle.aa_round_trip_laws.proofs.Fields.{apart, all_by, is_bare, is_unquoted, is_key, Reads, reads_quoted, reads_bare}

-- a name as a field: between quotes where all its bytes show, else in digits
abbrev pub named : List ℕ → List ℕ → WordData
named k name = record { form = cond (list_all is_shown name) Quoted Plain; key = k; text = cond (list_all is_shown name) name (flat_map hex_pair name) }

from_48 : (b : ℕ) → 48 ≤ b → is_bare b ≡ true
from_48 b h =
    let e : nat_le 48 b ≡ true = le-leb 48 b h in
    let away : (c : ℕ) → nat_le 48 c ≡ false → (b == c) ≡ false = λ c k. apart (nat_le 48) b c e k in
    and_from (not (b == 32 || b == 9 || b == 29) && not (b == 34)) (not (b == 39))
    (and_from (not (b == 32 || b == 9 || b == 29)) (not (b == 34)) (ap not (or_from (b == 32 || b == 9) (b == 29) (or_from (b == 32) (b == 9) (away 32 refl) (away 9 refl)) (away 29 refl))) (ap not (away 34 refl)))
    (ap not (away 39 refl))

digit_bare : (n : ℕ) → is_bare (hex_digit n) ≡ true
digit_bare n = from_48 (hex_digit n) (digit_from_48 n)

digits_bare : (bytes : List ℕ) → list_all is_bare (flat_map hex_pair bytes) ≡ true
digits_bare [] = refl
digits_bare (b ∷ bs) =
    and_from (is_bare (hex_digit (b / 16))) (is_bare (hex_digit (b % 16)) && list_all is_bare (flat_map hex_pair bs)) (digit_bare (b / 16))
    (and_from (is_bare (hex_digit (b % 16))) (list_all is_bare (flat_map hex_pair bs)) (digit_bare (b % 16)) (digits_bare bs))

shown_unquoted : (b : ℕ) → is_shown b ≡ true → is_unquoted b ≡ true
shown_unquoted b h = (and_parts (nat_le 33 b && nat_le b 126) (not (b == 34)) h).1

reads_shown : (t : Bool) (k name : List ℕ) → list_all is_shown name ≡ t → is_key k ≡ true
    → Reads (key k (cond t (quoted name) (flat_map hex_pair name))) (record { form = cond t Quoted Plain; key = k; text = cond t name (flat_map hex_pair name) } ∷ [])
reads_shown true k name e h = reads_quoted k name h (all_by is_unquoted is_shown shown_unquoted name e)
reads_shown false k [] e h = absurd (true≢false e)
reads_shown false k (b ∷ bs) e h = reads_bare k (hex_digit (b / 16)) (hex_digit (b % 16) ∷ flat_map hex_pair bs) h (digits_bare (b ∷ bs))

pub reads_named : (k name : List ℕ) → is_key k ≡ true → Reads (key k (value name)) (named k name ∷ [])
unfolding value
reads_named k name h = reads_shown (list_all is_shown name) k name refl h

name_shown : (t : Bool) (k name : List ℕ) → are_bytes name ≡ true → name_in (record { form = cond t Quoted Plain; key = k; text = cond t name (flat_map hex_pair name) }) ≡ name
name_shown true k name h = refl
name_shown false k name h =
    ap (λ (b : Bool). cond b (bytes_of_hex (flat_map hex_pair name)) (flat_map hex_pair name)) (pairs_hex name h)
    ∙ made_back name h

-- the name is read from its field
pub name_named : (k name : List ℕ) → are_bytes name ≡ true → name_in (named k name) ≡ name
name_named k name h = name_shown (list_all is_shown name) k name h
