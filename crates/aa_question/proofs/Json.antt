-- The JSON value of bytes, by what reading them gives.
use Rattle.std.proofs.Common.{◌≡◌, ℕ, List, Bool, true, false, cond, Option, Some, None, Result, Ok, Err, refl, ap}
use Rattle.std.specs.Str.{IsUtf8, is_utf8}
use Rattle.std.proofs.lemmas.Str.{IsUtf8-from_is_utf8, is_utf8-from_IsUtf8}
use Rattle.serde_json.specs.Data.{Data}
use Rattle.serde_json.specs.Read.{read}
use Rattle.aa_question.specs.declared.question.QuestionFault.{QuestionFault}
use Rattle.aa_question.specs.declared.question.QuestionFault.TheVariants.{NotJson}
use Rattle.aa_question.specs.Questions.{needed, json_of}

abbrev gated : Bool → Option Data → Result Data QuestionFault
gated b given = cond b (needed NotJson given) (Err NotJson)

let_through : (b : Bool) (given : Option Data) (d : Data) → b ≡ true → given ≡ Some d → gated b given ≡ Ok d
let_through true given d h is = ap (needed NotJson) is
let_through false given d h is = absurd cc

kept_out : (b : Bool) (given : Option Data) → (b ≡ true → given ≡ None) → gated b given ≡ Err NotJson
kept_out true given h = ap (needed NotJson) (h refl)
kept_out false given h = refl

pub read_so : (bytes : List ℕ) (d : Data) → IsUtf8 bytes → read bytes ≡ Some d → json_of bytes ≡ Ok d
unfolding json_of
read_so bytes d u is = let_through (is_utf8 bytes) (read bytes) d (is_utf8-from_IsUtf8 bytes u) is

pub read_not : (bytes : List ℕ) → (IsUtf8 bytes → read bytes ≡ None) → json_of bytes ≡ Err NotJson
unfolding json_of
read_not bytes h = kept_out (is_utf8 bytes) (read bytes) (λ e. h (IsUtf8-from_is_utf8 bytes e))
