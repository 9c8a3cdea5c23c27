-- The words of claims.
-- Source: own.
use Rattle.std.specs.Prelude.{◌≡◌, ℕ, ◌+◌, ◌<◌, ◌==◌, ◌||◌, not, List, [], ◌∷◌, length, take, drop, position, Bool, true, false, Option, Some, None, unwrap_or, if◌then◌else◌}
use Rattle.aa_claims.specs.declared.words.ClaimWord.{ClaimWord}
use Rattle.aa_claims.specs.declared.words.Piece.{Piece}
use Rattle.aa_claims.specs.declared.words.Piece.TheVariants as piece

-- a space, a tab, or a CR
abbrev pub is_blank : ℕ → Bool
is_blank b = b == 32 || (b == 9 || b == 13)

-- a word: how many bytes of the text stand before it, its bytes without quotes, and whether it stands in quotes
pub record WordData : Type 0 where
  pub at : ℕ
  pub text : List ℕ
  pub is_quoted : Bool

-- a word, without where it lies in memory
abbrev pub word_data : ClaimWord → WordData
word_data w = record { at = w.at; text = w.text.items; is_quoted = w.is_quoted }

-- what stands at a place of a text: a word, with the place behind it; a quote that isn't closed; or nothing more
pub data Next : Type 0 where
  Word : WordData → ℕ → Next
  Open : ℕ → Next
  End : Next

-- the same of what the code has
abbrev pub next_data : Piece → Next
next_data (piece.Word w behind) = Word (word_data w) behind
next_data (piece.Open at) = Open at
next_data piece.End = End

-- how many bytes stand before the first that is so, or all
abbrev pub count_before : (ℕ → Bool) → List ℕ → ℕ
count_before stops text = unwrap_or (position stops text) (length text)

-- a word without quotes goes up to the next blank
abbrev pub plain_word : ℕ → ℕ → List ℕ → Next
plain_word at b rest = Word (record { at = at; text = b ∷ take (count_before is_blank rest) rest; is_quoted = false }) (at + 1 + count_before is_blank rest)

-- a word in quotes goes up to the next quote, if there is one
abbrev pub quoted_word : ℕ → List ℕ → Option ℕ → Next
quoted_word at rest None = Open at
quoted_word at rest (Some n) = Word (record { at = at; text = take n rest; is_quoted = true }) (at + 2 + n)

-- what these bytes begin with, of which the first stands at that place: # begins a comment
abbrev pub next_at : ℕ → List ℕ → Next
next_at at [] = End
next_at at (b ∷ rest) =
    if b == 35 then End
    else (if b == 34 then quoted_word at rest (position (λ c. c == 34) rest) else plain_word at b rest)

-- the first place from there on at which no blank stands, or the end
abbrev pub behind_blanks : List ℕ → ℕ → ℕ
behind_blanks line from = from + count_before (λ b. not (is_blank b)) (drop from line)

-- what stands in a text from a place on, behind blanks
unfoldable pub next_from : List ℕ → ℕ → Next
next_from line from = next_at (behind_blanks line from) (drop (behind_blanks line from) line)

-- a word ends behind the place
abbrev pub IsLater : ℕ → Next → Type 0
IsLater from (Word w behind) = from < behind
IsLater from (Open at) = Unit {0}
IsLater from End = Unit {0}

-- these words stand one behind another, from one place of a text to another
abbrev pub AreBetween : List ℕ → ℕ → List WordData → ℕ → Type 0
AreBetween line from [] to = from ≡ to
AreBetween line from (w ∷ ws) to = (behind : ℕ) × (next_from line from ≡ Word w behind) × AreBetween line behind ws to

-- the words of a text from one place on
pub record AreWords (line : List ℕ) (from : ℕ) (words : List WordData) : Type 0 where
  pub to : ℕ
  pub between : AreBetween line from words to
  pub ends : next_from line to ≡ End

-- behind some words a quote is open
pub record IsOpenAt (line : List ℕ) (from at : ℕ) : Type 0 where
  pub words : List WordData
  pub to : ℕ
  pub between : AreBetween line from words to
  pub opens : next_from line to ≡ Open at
