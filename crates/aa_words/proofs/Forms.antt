-- What is skipped in the form of an include.
use Rattle.std.proofs.Common.{◌≡◌, ℕ, suc, ◌+◌, ◌-◌, ap, ◌<◌, ◌≤◌, ◌==◌, Bool, true, false, List, [], ◌∷◌, length, take}
use Rattle.std.proofs.Common.{drop, get_or, Result, Ok, Err, Option, Some, None, option_and_then, cond, if◌then◌else◌, codes, refl, sym, ◌∙◌, arith}
use Rattle.std.proofs.lemmas.List.{length-drop}
use Rattle.std.specs.Str.{bytes_eq}
use Rattle.aa_words.specs.Runs.{is_white, name_len}
use Rattle.aa_words.specs.Includes.{behind_white, behind_word, or_else_white, from_sign, ends_include_name, behind_name, behind_sign, named_form, include_form, include_end, include_len, include_name}
use Rattle.aa_words.proofs.Extents.{to_end}

-- white space

pub white_stops : (text s : List ℕ) (b : Bool) → 0 < length s → b ≡ is_white (get_or s 0 0) → b ≡ false → behind_white text ≡ behind_white s → s ≡ behind_white text
unfolding behind_white
white_stops text [] b h e is so_far = absurd (omega arith)
white_stops text (x ∷ xs) b h e is so_far = sym (so_far ∙ rw (sym e ∙ is) refl)

pub white_goes : (text s : List ℕ) (b : Bool) → 0 < length s → b ≡ is_white (get_or s 0 0) → b ≡ true → behind_white text ≡ behind_white s → behind_white text ≡ behind_white (take (length s - 1) (drop 1 s))
unfolding behind_white
white_goes text [] b h e is so_far = absurd (omega arith)
white_goes text (x ∷ xs) b h e is so_far = rw (to_end (x ∷ xs) 1) (so_far ∙ rw (sym e ∙ is) refl)

pub white_ends : (text s : List ℕ) → length s < 1 → behind_white text ≡ behind_white s → s ≡ behind_white text
unfolding behind_white
white_ends text [] h so_far = sym so_far
white_ends text (x ∷ xs) h so_far = absurd (omega arith)

-- an include's name

pub name_stops : (sign : ℕ) (text s : List ℕ) (b : Bool) → 0 < length s → b ≡ ends_include_name sign (get_or s 0 0) → b ≡ true → behind_name sign text ≡ behind_name sign s → s ≡ behind_name sign text
unfolding behind_name
name_stops sign text [] b h e is so_far = absurd (omega arith)
name_stops sign text (x ∷ xs) b h e is so_far = sym (so_far ∙ rw (sym e ∙ is) refl)

pub name_goes : (sign : ℕ) (text s : List ℕ) (b : Bool) → 0 < length s → b ≡ ends_include_name sign (get_or s 0 0) → b ≡ false
    → behind_name sign text ≡ behind_name sign s → behind_name sign text ≡ behind_name sign (take (length s - 1) (drop 1 s))
unfolding behind_name
name_goes sign text [] b h e is so_far = absurd (omega arith)
name_goes sign text (x ∷ xs) b h e is so_far = rw (to_end (x ∷ xs) 1) (so_far ∙ rw (sym e ∙ is) refl)

pub name_ends : (sign : ℕ) (text s : List ℕ) → length s < 1 → behind_name sign text ≡ behind_name sign s → s ≡ behind_name sign text
unfolding behind_name
name_ends sign text [] h so_far = sym so_far
name_ends sign text (x ∷ xs) h so_far = absurd (omega arith)

-- what is left is never longer

white_le : (s : List ℕ) → length (behind_white s) ≤ length s
unfolding behind_white
white_le [] = omega arith
white_le (b ∷ bs) = elim (is_white b) as (λ v. length (cond v (behind_white bs) (b ∷ bs)) ≤ length (b ∷ bs)) [ true ↦ omega (arith, white_le bs) | false ↦ omega arith ]

pub named_le : (sign : ℕ) (s : List ℕ) → length (behind_name sign s) ≤ length s
unfolding behind_name
named_le sign [] = omega arith
named_le sign (b ∷ bs) = elim (ends_include_name sign b) as (λ v. length (cond v (b ∷ bs) (behind_name sign bs)) ≤ length (b ∷ bs)) [ true ↦ omega arith | false ↦ omega (arith, named_le sign bs) ]

abbrev left : Result (List ℕ) (List ℕ) → List ℕ
left (Ok rest) = rest
left (Err rest) = rest

abbrev word_left : List ℕ → Option (List ℕ) → List ℕ
word_left bytes None = bytes
word_left bytes (Some rest) = rest

word_le : (bytes : List ℕ) (b : Bool) → length (word_left bytes (if b then Some (drop (name_len bytes) bytes) else None)) ≤ length bytes
word_le bytes true = omega (arith, length-drop (name_len bytes) bytes)
word_le bytes false = omega arith

pub behind_word_le : (word bytes rest : List ℕ) → behind_word word bytes ≡ Some rest → length rest ≤ length bytes
behind_word_le word bytes rest e =
    let le : length (word_left bytes (behind_word word bytes)) ≤ length bytes = word_le bytes (bytes_eq (take (name_len bytes) bytes) word) in
    rw e at le

exists_le : (bytes below : List ℕ) (found : Option (List ℕ)) → length (word_left below found) ≤ length bytes → length (or_else_white bytes found) ≤ length bytes
exists_le bytes below None le = omega arith
exists_le bytes below (Some rest) le = omega (arith, white_le rest)

if_le : (bytes : List ℕ) (found : Option (List ℕ)) → length (word_left bytes found) ≤ length bytes → length (or_else_white bytes (option_and_then (λ rest. behind_word (codes "exists") (behind_white rest)) found)) ≤ length bytes
if_le bytes None le = omega arith
if_le bytes (Some rest) le =
    let below = behind_white rest in
    let shorter : length (word_left below (behind_word (codes "exists") below)) ≤ length below = word_le below (bytes_eq (take (name_len below) below) (codes "exists")) in
    exists_le bytes below (behind_word (codes "exists") below) (omega (arith, white_le rest))

sign_le : (s : List ℕ) → length (from_sign s) ≤ length s
unfolding from_sign
sign_le s =
    let form = behind_white s in
    let shorter : length (word_left form (behind_word (codes "if") form)) ≤ length form = word_le form (bytes_eq (take (name_len form) form) (codes "if")) in
    let le : length (from_sign s) ≤ length form = if_le form (behind_word (codes "if") form) shorter in
    omega (arith, white_le s)

closed_le : (sign n : ℕ) (s : List ℕ) → length s ≤ n → length (left (behind_sign sign s)) ≤ n
closed_le sign n [] h = h
closed_le sign n (b ∷ bs) h = elim (b == sign) as (λ v. length (left (cond v (Ok bs) (Err (b ∷ bs)))) ≤ n) [ true ↦ omega arith | false ↦ h ]

form_le : (s : List ℕ) → length (left (named_form s)) ≤ length s
form_le [] = omega arith
form_le (b ∷ bs) =
    let in_signs : length (left (behind_sign 62 (behind_name 62 bs))) ≤ suc (length bs) = closed_le 62 (suc (length bs)) (behind_name 62 bs) (omega (arith, named_le 62 bs)) in
    let in_quotes : length (left (behind_sign 34 (behind_name 34 bs))) ≤ suc (length bs) = closed_le 34 (suc (length bs)) (behind_name 34 bs) (omega (arith, named_le 34 bs)) in
    elim (b == 60) as (λ v. length (left (cond v (behind_sign 62 (behind_name 62 bs)) (if b == 34 then behind_sign 34 (behind_name 34 bs) else Err (b ∷ bs)))) ≤ suc (length bs)) [
      | true ↦ in_signs
      | false ↦ elim (b == 34) as (λ v. length (left (cond v (behind_sign 34 (behind_name 34 bs)) (Err (b ∷ bs)))) ≤ suc (length bs)) [ true ↦ in_quotes | false ↦ omega arith ]
    ]

-- an include's form breaks off within the text
pub broken_le : (s broken : List ℕ) → include_form s ≡ Err broken → length broken ≤ length s
unfolding include_form
broken_le s broken e =
    let le : length (left (include_form s)) ≤ length (from_sign s) = form_le (from_sign s) in
    let broken_short : length broken ≤ length (from_sign s) = rw e at le in
    omega (arith, sign_le s)

pub form_rest_le : (s rest : List ℕ) → include_form s ≡ Ok rest → length rest ≤ length s
unfolding include_form
form_rest_le s rest e =
    let le : length (left (include_form s)) ≤ length (from_sign s) = form_le (from_sign s) in
    let short : length rest ≤ length (from_sign s) = rw e at le in
    omega (arith, sign_le s)

include_end_le : (s : List ℕ) (form : Result (List ℕ) (List ℕ)) → length (left form) ≤ length s → include_end s form ≤ length s
include_end_le s (Ok []) h = omega arith
include_end_le s (Ok (b ∷ bs)) h = elim (b == 44) as (λ v. (length s - length (b ∷ bs)) + (cond v 1 0) ≤ length s) [ true ↦ omega arith | false ↦ omega arith ]
include_end_le s (Err broken) h = omega arith

-- an include is no longer than the text
pub include_len_le : (s : List ℕ) → include_len s ≤ length s
unfolding include_len include_form
include_len_le s =
    let behind = drop (name_len s) s in
    let le : length (left (include_form behind)) ≤ length (from_sign behind) = form_le (from_sign behind) in
    include_end_le s (include_form behind) (omega (arith, sign_le behind, length-drop (name_len s) s))

name_shorter : (sign b : ℕ) (bs : List ℕ) → length (b ∷ bs) - length (behind_name sign bs) ≡ suc (length bs - length (behind_name sign bs))
name_shorter sign b bs = omega (arith, named_le sign bs)

-- an include's name, as the code takes it
pub name_taken : (sign : ℕ) (s : List ℕ) → take (length s - length (behind_name sign s)) s ≡ include_name sign s
unfolding behind_name include_name
name_taken sign [] = refl
name_taken sign (b ∷ bs) = elim (ends_include_name sign b) as (λ v. take (length (b ∷ bs) - length (cond v (b ∷ bs) (behind_name sign bs))) (b ∷ bs) ≡ cond v [] (b ∷ include_name sign bs)) [
  | true ↦ let none : length (b ∷ bs) - length (b ∷ bs) ≡ 0 = omega arith in ap (λ (n : ℕ). take n (b ∷ bs)) none
  | false ↦ ap (λ (n : ℕ). take n (b ∷ bs)) (name_shorter sign b bs) ∙ ap (λ (t : List ℕ). b ∷ t) (name_taken sign bs)
]
