-- Where a quoted text ends.
-- Source: apparmor.d(5), "Format".
use Rattle.std.specs.Prelude.{⊤, ℕ, suc, ◌≡◌, ◌⊎◌, true, false, List, [], ◌∷◌, drop}
use Rattle.aa_words.specs.Runs.{begins_with}
use Rattle.aa_language_laws.specs.Places.{is_quoted, EndsFirst}

-- Behind its opening quote a quoted text ends at a " that no backslash quotes; a zero byte and the end of the text end it too.
abbrev pub QuoteEnds : List ℕ → List ℕ → Type 0
QuoteEnds back [] = ⊤
QuoteEnds back (b ∷ bs) = (b ≡ 0) ⊎ ((b ≡ 34) × (is_quoted back ≡ false))

-- with the quote that closes it, the text in quotes is so long: that quote stands where it first ends
pub record ClosesQuote (text : List ℕ) (long : ℕ) : Type 0 where
  pub at : ℕ
  pub first : EndsFirst QuoteEnds text at
  pub quote : begins_with 34 (drop at text) ≡ true
  pub long_is : long ≡ suc at
