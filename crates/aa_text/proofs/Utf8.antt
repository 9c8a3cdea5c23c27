-- What bytes are in JSON, where they are UTF-8 and where they aren't.
use Rattle.std.proofs.Common.{◌≡◌, ℕ, List, Bool, true, false, refl}
use Rattle.std.specs.Str.{IsUtf8, is_utf8}
use Rattle.std.proofs.lemmas.Str.{IsUtf8-from_is_utf8, is_utf8-from_IsUtf8}
use Rattle.aa_text.specs.Jsons.{json_text, in_digits, json_bytes}
use Rattle.aa_text.proofs.Below.{first, second}

pub json_of_text : (bytes : List ℕ) → IsUtf8 bytes → json_bytes bytes ≡ json_text bytes
unfolding json_bytes
json_of_text bytes u = first (is_utf8 bytes) (json_text bytes) (in_digits bytes) (is_utf8-from_IsUtf8 bytes u)

pub json_of_others : (bytes : List ℕ) → (IsUtf8 bytes → ⊥) → json_bytes bytes ≡ in_digits bytes
unfolding json_bytes
json_of_others bytes h = second (is_utf8 bytes) (json_text bytes) (in_digits bytes) (λ e. h (IsUtf8-from_is_utf8 bytes e))

pub is_text : (bytes : List ℕ) → IsUtf8 bytes → is_utf8 bytes ≡ true
is_text bytes u = is_utf8-from_IsUtf8 bytes u

pub is_false : (b : Bool) → (b ≡ true → ⊥) → b ≡ false
is_false true h = absurd (h refl)
is_false false h = refl

pub is_no_text : (bytes : List ℕ) → (IsUtf8 bytes → ⊥) → is_utf8 bytes ≡ false
is_no_text bytes h = is_false (is_utf8 bytes) (λ e. h (IsUtf8-from_is_utf8 bytes e))
