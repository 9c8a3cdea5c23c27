-- Bytes that stand for themselves are ASCII.
use Rattle.std.proofs.Common.{◌≡◌, ℕ, zero, suc, ◌<◌, ◌≤◌, true, List, [], ◌∷◌, not, ◌&&◌, ◌==◌, arith}
use Rattle.std.specs.Prelude.{nat_le, slice_index}
use Rattle.std.specs.List.{list_all}
use Rattle.std.specs.Str.{IsUtf8}
use Rattle.std.proofs.lemmas.Bool.{and_parts, leb-true}
use Rattle.std.proofs.lemmas.Str.{IsUtf8-from_ascii}
use Rattle.aa_base.specs.Values.{is_shown}

ascii : (b : ℕ) → is_shown b ≡ true → b < 128
ascii b e =
    let range = and_parts (nat_le 33 b && nat_le b 126) (not (b == 34)) e in
    let below = and_parts (nat_le 33 b) (nat_le b 126) range.0 in
    let most : b ≤ 126 = leb-true b 126 below.1 in
    omega arith

each_ascii : (bytes : List ℕ) → list_all is_shown bytes ≡ true → (i : ℕ) → slice_index bytes i < 128
each_ascii [] e i = omega arith
each_ascii (b ∷ bs) e zero = ascii b (and_parts (is_shown b) (list_all is_shown bs) e).0
each_ascii (b ∷ bs) e (suc i) = each_ascii bs (and_parts (is_shown b) (list_all is_shown bs) e).1 i

pub shown_is_text : (bytes : List ℕ) → list_all is_shown bytes ≡ true → IsUtf8 bytes
shown_is_text bytes e = IsUtf8-from_ascii bytes (each_ascii bytes e)
