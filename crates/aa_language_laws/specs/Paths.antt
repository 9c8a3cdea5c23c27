-- Where a path ends.
-- Source: apparmor.d(5), "Globbing"; own.
use Rattle.std.specs.Prelude.{⊤, ℕ, zero, suc, ◌+◌, ◌<◌, ◌≤◌, ◌≡◌, ◌==◌, ◌&&◌, ◌||◌, ◌⊎◌, Bool, true, false, not, List, [], ◌∷◌, ◌++◌, drop, if◌then◌else◌}
use Rattle.aa_words.specs.Runs.{is_white, ends_after_comma}
use Rattle.aa_language_laws.specs.Places.{is_quoted}

-- the place behind these bytes stands in [ ]: the nearest bracket that no backslash quotes is an opening one
unfoldable pub is_in_brackets : List ℕ → Bool
is_in_brackets [] = false
is_in_brackets (b ∷ back) = if (b == 91 || b == 93) && not (is_quoted back) then b == 91 else is_in_brackets back

-- an opening bracket that no backslash quotes, behind which each closing one is quoted; all lists have the nearest first
pub record OpenBracket (back : List ℕ) : Type 0 where
  pub inner : List ℕ
  pub earlier : List ℕ
  pub whole : back ≡ inner ++ (91 ∷ earlier)
  pub opens : is_quoted earlier ≡ false
  pub unclosed : (later between : List ℕ) → inner ≡ later ++ (93 ∷ between) → is_quoted (between ++ (91 ∷ earlier)) ≡ true

-- a brace behind these bytes counts: no backslash quotes it, and it stands outside brackets
abbrev pub counts : List ℕ → Bool
counts back = not (is_quoted back) && not (is_in_brackets back)

-- how often the byte stands among the n nearest where it counts
unfoldable pub count_of : ℕ → ℕ → List ℕ → ℕ
count_of c zero back = 0
count_of c (suc n) [] = 0
count_of c (suc n) (b ∷ back) = (if b == c && counts back then 1 else 0) + count_of c n back

-- the place behind these bytes stands in { }: some number of the nearest opens more braces than it closes
abbrev pub IsInBraces : List ℕ → Type 0
IsInBraces back = (n : ℕ) × (count_of 125 n back < count_of 123 n back)

-- An opening brace that counts, behind which no more braces close than open, up to whatever place: so many bytes stand between it
-- and this one, and the n nearest of them are behind that place.
pub record OpenBrace (back : List ℕ) : Type 0 where
  pub between : ℕ
  pub earlier : List ℕ
  pub stands : drop between back ≡ 123 ∷ earlier
  pub opens : counts earlier ≡ true
  pub unclosed : (n k : ℕ) → n + k ≡ between → count_of 125 k (drop n back) ≤ count_of 123 k (drop n back)

-- a comma behind these bytes, and before those, ends a path: it stands outside braces and brackets, and white space, # or } follows, or nothing
pub record CommaEnds (back bs : List ℕ) : Type 0 where
  pub outside_brackets : is_in_brackets back ≡ false
  pub outside_braces : IsInBraces back → ⊥
  pub last : ends_after_comma bs ≡ true

-- the byte ends a path where no backslash quotes it
abbrev pub ByteEnds : List ℕ → ℕ → List ℕ → Type 0
ByteEnds back b bs = (is_white b ≡ true) ⊎ ((b ≡ 34) ⊎ ((b ≡ 44) × CommaEnds back bs))

-- A path ends at the end of the text, at a zero byte, and, where no backslash quotes them, at white space, " and such a comma.
abbrev pub PathEnds : List ℕ → List ℕ → Type 0
PathEnds back [] = ⊤
PathEnds back (b ∷ bs) = (b ≡ 0) ⊎ ((is_quoted back ≡ false) × ByteEnds back b bs)
