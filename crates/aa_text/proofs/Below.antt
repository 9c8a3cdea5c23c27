-- What stands below bytes, where they are UTF-8 and where they aren't.
use Rattle.std.proofs.Common.{◌≡◌, ℕ, List, Bool, true, false, cond, refl, flat_map, chars}
use Rattle.std.specs.Str.{IsUtf8, is_utf8}
use Rattle.std.proofs.lemmas.Str.{IsUtf8-from_is_utf8, is_utf8-from_IsUtf8}
use Rattle.aa_text.specs.Excerpts.{below, blank, all_below}

pub first : (b : Bool) (text others : List ℕ) → b ≡ true → cond b text others ≡ text
first b text others e = rw e refl

pub second : (b : Bool) (text others : List ℕ) → (b ≡ true → ⊥) → cond b text others ≡ others
second true text others h = absurd (h refl)
second false text others h = refl

pub below_text : (bytes : List ℕ) → IsUtf8 bytes → all_below bytes ≡ flat_map below (chars bytes)
unfolding all_below
below_text bytes u = first (is_utf8 bytes) (flat_map below (chars bytes)) (flat_map blank bytes) (is_utf8-from_IsUtf8 bytes u)

pub below_others : (bytes : List ℕ) → (IsUtf8 bytes → ⊥) → all_below bytes ≡ flat_map blank bytes
unfolding all_below
below_others bytes h = second (is_utf8 bytes) (flat_map below (chars bytes)) (flat_map blank bytes) (λ e. h (IsUtf8-from_is_utf8 bytes e))
