-- The message of a line, by what reading it gives.
use Rattle.std.proofs.Common.{◌≡◌, ℕ, List, Bool, true, false, cond, Some, None, option_and_then, refl, ap}
use Rattle.std.specs.Str.{IsUtf8, is_utf8}
use Rattle.std.proofs.lemmas.Str.{IsUtf8-from_is_utf8, is_utf8-from_IsUtf8}
use Rattle.serde_json.specs.Data.{Data}
use Rattle.serde_json.specs.Read.{read}
use Rattle.aa_messages.specs.Journal.{message_of, json_message}

first : {A : Type 0} (b : Bool) (x y z : A) → b ≡ true → x ≡ z → cond b x y ≡ z
first true x y z e is = is
first false x y z e is = absurd (cc)

neither : {A : Type 0} (b : Bool) (x y : A) → (b ≡ true → x ≡ y) → cond b x y ≡ y
neither true x y h = h refl
neither false x y h = refl

pub read_so : (line : List ℕ) (d : Data) → IsUtf8 line → read line ≡ Some d → json_message line ≡ message_of d
unfolding json_message
read_so line d u is = first (is_utf8 line) (option_and_then message_of (read line)) None (message_of d) (is_utf8-from_IsUtf8 line u) (ap (option_and_then message_of) is)

pub read_not : (line : List ℕ) → (IsUtf8 line → read line ≡ None) → json_message line ≡ None
unfolding json_message
read_not line h = neither (is_utf8 line) (option_and_then message_of (read line)) None (λ e. ap (option_and_then message_of) (h (IsUtf8-from_is_utf8 line e)))
