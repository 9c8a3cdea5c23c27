-- How the words of a text stand in it and in the sources that it includes.
use Rattle.std.specs.Prelude.{ℕ, zero, suc, ◌-◌, ◌≡◌, ◌≢◌, ◌<◌, ◌≤◌, List, [], ◌∷◌, length, take, drop, Option, Some, None}
use Rattle.std.specs.List.{All}
use Rattle.aa_words.specs.declared.word.WordKind.TheVariants.{Quoted, Value}
use Rattle.aa_words.specs.Splits.{WordData}

-- the text of a file: 0 is the main text
abbrev pub text_of_file : List (List ℕ × List ℕ) → List ℕ → ℕ → Option (List ℕ)
text_of_file sources text zero = Some text
text_of_file [] text (suc file) = None
text_of_file (e ∷ es) text (suc file) = text_of_file es e.1 file

-- a word is the slice of its source at its span; only one in quotes may be empty
pub record StandsIn (sources : List (List ℕ × List ℕ)) (main : List ℕ) (w : WordData) : Type 0 where
  pub text : List ℕ
  pub file : text_of_file sources main w.span.file ≡ Some text
  pub nonempty : w.kind ≢ Quoted → w.kind ≢ Value → w.span.start < w.span.end
  pub ordered : w.span.start ≤ w.span.end
  pub within : w.span.end ≤ length text
  pub slice : w.text ≡ take (w.span.end - w.span.start) (drop w.span.start text)

-- of two words of one reading the later begins where the earlier ends, or behind
abbrev pub IsBehind : WordData → WordData → Type 0
IsBehind v w = v.span.reading ≡ w.span.reading → v.span.end ≤ w.span.start

-- the spans of one reading rise: each word ends where every later one of its reading begins, or before that
abbrev pub Rise : List WordData → Type 0
Rise [] = Unit {0}
Rise (w ∷ ws) = All (IsBehind w) ws × Rise ws
