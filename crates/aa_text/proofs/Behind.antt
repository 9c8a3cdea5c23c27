-- What stands behind a value matters to the lexer only by its own lexemes.
use Rattle.std.proofs.Common.{◌≡◌, ◌<◌, ◌^◌, ℕ, Bool, true, false, cond, List, [], ◌∷◌, ◌++◌, decimal, refl, sym, ap, ap₂, ◌∙◌, append_assoc}
use Rattle.json.specs.Token.{boolean, number, string, null, bad}
use Rattle.json.specs.Word.{ends_word, word}
use Rattle.json.specs.Lex.{token, string_token, operator, class, operator_lexeme, lex, between}
use Rattle.json.specs.Print.{escape, quoted, token_text}
use Rattle.json.proofs.Printed.Strings.{content-escape, lex-escape}
use Rattle.json.proofs.Printed.Numbers.{lex-number, in_word-ended}
use Rattle.json.proofs.Printed.Decimals.{IsNumber-decimal}
use Rattle.serde_json.specs.Data as json
use Rattle.serde_json.specs.Written.{comma_if, compact_text, items_text, members_text}
use Rattle.aa_text.specs.Again.{IsPlain, ArePlain, HasPlain}

-- both texts end a word, and have the same lexemes
abbrev pub Alike : List ℕ → List ℕ → Type 0
Alike x y = (ends_word x ≡ true) × (ends_word y ≡ true) × (lex between x ≡ lex between y)

behind_operator : (c : ℕ) (x y : List ℕ) → class c ≡ operator → lex between x ≡ lex between y → lex between (c ∷ x) ≡ lex between (c ∷ y)
unfolding lex
behind_operator c x y is e = rw is (ap (λ l. operator_lexeme c ∷ l) e)

behind_null : (x y : List ℕ) → Alike x y → lex between (token_text null ++ x) ≡ lex between (token_text null ++ y)
unfolding lex word
behind_null x y a =
    ap₂ (λ ended l. token (cond ended null bad) ∷ l) (a.0 ∙ sym a.1) (in_word-ended x a.0 ∙ (a.2 ∙ sym (in_word-ended y a.1)))

behind_boolean : (b : Bool) (x y : List ℕ) → Alike x y → lex between (token_text (boolean b) ++ x) ≡ lex between (token_text (boolean b) ++ y)
unfolding lex word
behind_boolean true x y a =
    ap₂ (λ ended l. token (cond ended (boolean true) bad) ∷ l) (a.0 ∙ sym a.1) (in_word-ended x a.0 ∙ (a.2 ∙ sym (in_word-ended y a.1)))
behind_boolean false x y a =
    ap₂ (λ ended l. token (cond ended (boolean false) bad) ∷ l) (a.0 ∙ sym a.1) (in_word-ended x a.0 ∙ (a.2 ∙ sym (in_word-ended y a.1)))

behind_number : (n : ℕ) → n < 2 ^ 64 → (x y : List ℕ) → Alike x y → lex between (decimal n ++ x) ≡ lex between (decimal n ++ y)
behind_number n small x y a =
    let whole = IsNumber-decimal n small in
    lex-number (decimal n) x whole a.0 ∙ (ap (λ l. token (number (decimal n)) ∷ l) a.2 ∙ sym (lex-number (decimal n) y whole a.1))

lexed : (s x : List ℕ) → lex between (quoted s ++ x) ≡ token (string s) ∷ lex between x
unfolding lex
lexed s x = rw (append_assoc (escape s) (34 ∷ []) x) (ap₂ (λ o l. token (string_token o) ∷ l) (content-escape s x) (lex-escape s x))

behind_text : (s x y : List ℕ) → lex between x ≡ lex between y → lex between (quoted s ++ x) ≡ lex between (quoted s ++ y)
behind_text s x y e = lexed s x ∙ (ap (λ l. token (string s) ∷ l) e ∙ sym (lexed s y))

regrouped : (v r x y : List ℕ) → lex between (v ++ (r ++ x)) ≡ lex between (v ++ (r ++ y)) → lex between ((v ++ r) ++ x) ≡ lex between ((v ++ r) ++ y)
regrouped v r x y e = ap (lex between) (append_assoc v r x) ∙ (e ∙ sym (ap (lex between) (append_assoc v r y)))

behind_comma : (later : Bool) (v x y : List ℕ) → lex between (v ++ x) ≡ lex between (v ++ y) → lex between ((comma_if later ++ v) ++ x) ≡ lex between ((comma_if later ++ v) ++ y)
behind_comma true v x y e = behind_operator 44 (v ++ x) (v ++ y) refl e
behind_comma false v x y e = e

items_end : (ds : json.Items) (x : List ℕ) → ends_word (items_text true ds ++ x) ≡ true
items_end json.no_items x = refl
items_end (json.item d ds) x = refl

members_end : (ms : json.Members) (x : List ℕ) → ends_word (members_text true ms ++ x) ≡ true
members_end json.no_members x = refl
members_end (json.member k d ms) x = refl

mutual
  pub behind_value : (d : json.Data) → IsPlain d → (x y : List ℕ) → Alike x y → lex between (compact_text d ++ x) ≡ lex between (compact_text d ++ y)
  behind_value json.null p x y a = behind_null x y a
  behind_value (json.boolean b) p x y a = behind_boolean b x y a
  behind_value (json.number (json.unsigned n)) p x y a = behind_number n p x y a
  behind_value (json.number (json.negative z)) p x y a = absurd p
  behind_value (json.number (json.float f)) p x y a = absurd p
  behind_value (json.string s) p x y a = behind_text s x y a.2
  behind_value (json.array ds) p x y a = behind_operator 91 (items_text false ds ++ x) (items_text false ds ++ y) refl (behind_items ds p x y a false)
  behind_value (json.object ms) p x y a = behind_operator 123 (members_text false ms ++ x) (members_text false ms ++ y) refl (behind_members ms p x y a false)

  behind_items : (ds : json.Items) → ArePlain ds → (x y : List ℕ) → Alike x y → (later : Bool) → lex between (items_text later ds ++ x) ≡ lex between (items_text later ds ++ y)
  behind_items json.no_items p x y a later = behind_operator 93 x y refl a.2
  behind_items (json.item d ds) p x y a later =
      let rest = items_text true ds in
      behind_comma later (compact_text d ++ rest) x y
      (regrouped (compact_text d) rest x y (behind_value d p.0 (rest ++ x) (rest ++ y) (items_end ds x, items_end ds y, behind_items ds p.1 x y a true)))

  behind_members : (ms : json.Members) → HasPlain ms → (x y : List ℕ) → Alike x y → (later : Bool) → lex between (members_text later ms ++ x) ≡ lex between (members_text later ms ++ y)
  behind_members json.no_members p x y a later = behind_operator 125 x y refl a.2
  behind_members (json.member k d ms) p x y a later =
      let rest = members_text true ms in
      let more = compact_text d ++ rest in
      behind_comma later (quoted k ++ 58 ∷ more) x y
      (regrouped (quoted k) (58 ∷ more) x y
      (behind_text k (58 ∷ (more ++ x)) (58 ∷ (more ++ y))
      (behind_operator 58 (more ++ x) (more ++ y) refl
      (regrouped (compact_text d) rest x y (behind_value d p.1 (rest ++ x) (rest ++ y) (members_end ms x, members_end ms y, behind_members ms p.2 x y a true))))))
