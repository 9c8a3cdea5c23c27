-- What is written is UTF-8, and so is read.
use Rattle.std.proofs.Common.{◌≡◌, ℕ, Bool, true, false, List, [], ◌∷◌, ◌++◌, IsUtf8, refl, sym, ap, ◌∙◌, arith, codes, decimal, append-nil}
use Rattle.std.proofs.lemmas.Str.{IsUtf8-append, is_utf8-from_IsUtf8, IsUtf8-from_is_utf8, IsUtf8-from_ascii, IsUtf8-nil}
use Rattle.std.proofs.lemmas.Fmt.{IsAscii-decimal}
use Rattle.json.specs.Lex.{lex, between}
use Rattle.json.specs.Print.{quoted, token_text}
use Rattle.json.specs.Token.{Token}
use Rattle.json.proofs.Printed.Utf8.{IsUtf8-are_ascii, IsUtf8-quoted, IsUtf8-boolean}
use Rattle.serde_json.specs.Data.{unsigned, negative, float, Data, null, boolean, number, string, array, object, Items, no_items, item, Members, no_members, member}
use Rattle.serde_json.specs.Read.{read}
use Rattle.serde_json.specs.Written.{compact_text, items_text, members_text, comma_if}
use Rattle.aa_text.specs.Again.{IsPlain, ArePlain, HasPlain, IsTextOf, TextsAreRead, ValuesAreRead}
use Rattle.aa_text.proofs.Plain.{read_before}

comma_utf8 : (later : Bool) → IsUtf8 (comma_if later)
comma_utf8 true = IsUtf8-are_ascii (44 ∷ []) refl
comma_utf8 false = IsUtf8-nil

-- an ASCII byte and what is UTF-8
behind : (x : ℕ) (xs : List ℕ) → IsUtf8 (x ∷ []) → IsUtf8 xs → IsUtf8 (x ∷ xs)
behind x xs one more = IsUtf8-append (x ∷ []) xs one more

mutual
  value_utf8 : (d : Data) → IsPlain d → IsUtf8 (compact_text d)
  value_utf8 null p = IsUtf8-are_ascii (token_text Token.null) refl
  value_utf8 (boolean b) p = IsUtf8-boolean b
  value_utf8 (number (unsigned n)) p = IsUtf8-from_ascii (decimal n) (IsAscii-decimal n p)
  value_utf8 (number (negative z)) p = absurd p
  value_utf8 (number (float x)) p = absurd p
  value_utf8 (string s) p = IsUtf8-quoted s p
  value_utf8 (array ds) p = behind 91 (items_text false ds) (IsUtf8-are_ascii (91 ∷ []) refl) (items_utf8 false ds p)
  value_utf8 (object ms) p = behind 123 (members_text false ms) (IsUtf8-are_ascii (123 ∷ []) refl) (members_utf8 false ms p)

  items_utf8 : (later : Bool) (ds : Items) → ArePlain ds → IsUtf8 (items_text later ds)
  items_utf8 later no_items p = IsUtf8-are_ascii (93 ∷ []) refl
  items_utf8 later (item d ds) p =
      IsUtf8-append (comma_if later) (compact_text d ++ items_text true ds) (comma_utf8 later) (IsUtf8-append (compact_text d) (items_text true ds) (value_utf8 d p.0) (items_utf8 true ds p.1))

  members_utf8 : (later : Bool) (ms : Members) → HasPlain ms → IsUtf8 (members_text later ms)
  members_utf8 later no_members p = IsUtf8-are_ascii (125 ∷ []) refl
  members_utf8 later (member k d ms) p =
      let rest = IsUtf8-append (compact_text d) (members_text true ms) (value_utf8 d p.1) (members_utf8 true ms p.2) in
      IsUtf8-append (comma_if later) (quoted k ++ 58 ∷ (compact_text d ++ members_text true ms)) (comma_utf8 later)
      (IsUtf8-append (quoted k) (58 ∷ (compact_text d ++ members_text true ms)) (IsUtf8-quoted k p.0) (behind 58 (compact_text d ++ members_text true ms) (IsUtf8-are_ascii (58 ∷ []) refl) rest))

line_end : lex between (codes "\n") ≡ lex between []
unfolding lex
line_end = refl

pub values : ValuesAreRead
values d p shallow =
    (is_utf8-from_IsUtf8 (compact_text d ++ codes "\n") (IsUtf8-append (compact_text d) (codes "\n") (value_utf8 d p) (IsUtf8-are_ascii (codes "\n") refl)), read_before (codes "\n") (refl, refl, line_end) d p shallow)

text_alone : (text : List ℕ) → IsUtf8 text → IsTextOf (compact_text (string text)) (string text)
text_alone text u = (
  is_utf8-from_IsUtf8 (compact_text (string text)) (value_utf8 (string text) u),
  ap read (sym (append-nil (compact_text (string text)))) ∙ read_before [] (refl, refl, refl) (string text) u (omega arith),
)

pub texts : TextsAreRead
texts text e = text_alone text (IsUtf8-from_is_utf8 text e)
