-- Where a rule ends that is passed over.
-- Source: apparmor.d(5), "Format"; own.
use Rattle.std.specs.Prelude.{⊤, ℕ, ◌<◌, ◌≡◌, ◌==◌, ◌&&◌, ◌||◌, ◌⊎◌, Bool, true, false, List, [], ◌∷◌, ◌++◌, take}
use Rattle.std.specs.List.{count_by, list_any}
use Rattle.aa_words.specs.Runs.{is_white, is_sign, begins_with}
use Rattle.aa_language_laws.specs.Places.{is_quoted}

-- a word could begin behind these bytes, the nearest first: behind white space, a sign, a quoted text and ->
abbrev pub begins_word : List ℕ → Bool
begins_word [] = false
begins_word (b ∷ back) = is_white b || is_sign b || b == 34 || (b == 62 && begins_with 45 back)

-- the text in quotes: a " stands in it only where a backslash quotes it, and none quotes the one behind it
pub record IsQuoteInner (inner : List ℕ) : Type 0 where
  pub each_quoted : (later between : List ℕ) → inner ≡ later ++ (34 ∷ between) → is_quoted between ≡ true
  pub last : is_quoted inner ≡ false

-- The place behind these bytes stands outside quotes and comments. What is left of them, where each quoted text is its closing
-- quote, and each comment its line end, is the second list. All lists have the nearest first.
pub data IsOutside : List ℕ → List ℕ → Type 0 where
  at_keyword : IsOutside [] []
  behind_byte : (b : ℕ) (back plain : List ℕ) → IsOutside back plain → (b ≡ 34 → ⊥) → (b ≡ 35 → begins_word plain ≡ false) → IsOutside (b ∷ back) (b ∷ plain)
  behind_quotes : (inner back plain : List ℕ) → IsOutside back plain → IsQuoteInner inner → IsOutside (34 ∷ (inner ++ (34 ∷ back))) (34 ∷ plain)
  behind_comment : (inner back plain : List ℕ) → IsOutside back plain → begins_word plain ≡ true → list_any (λ b. b == 10) inner ≡ false → IsOutside (10 ∷ (inner ++ (35 ∷ back))) (10 ∷ plain)

-- behind these bytes the pair of signs is open: among some number of the nearest, more open than close
abbrev pub IsOpen : ℕ → ℕ → List ℕ → Type 0
IsOpen opening closing plain = (n : ℕ) × (count_by (λ b. b == closing) (take n plain) < count_by (λ b. b == opening) (take n plain))

-- the place behind these bytes stands outside quotes, comments, ( ), { } and [ ]
pub record IsBare (back : List ℕ) : Type 0 where
  pub plain : List ℕ
  pub outside : IsOutside back plain
  pub round : IsOpen 40 41 plain → ⊥
  pub curly : IsOpen 123 125 plain → ⊥
  pub square : IsOpen 91 93 plain → ⊥

-- Behind its keyword a rule that is passed over ends at a comma that stands so; a zero byte and the end of the text end it too.
abbrev pub RuleEnds : List ℕ → List ℕ → Type 0
RuleEnds back [] = ⊤
RuleEnds back (b ∷ bs) = (b ≡ 0) ⊎ ((b ≡ 44) × IsBare back)
