-- The lines of a report.
-- Source: own.
use Rattle.std.specs.Prelude.{ℕ, ◌==◌, ◌||◌, List, [], ◌∷◌, length, drop, map, codes, nat_eq, nat_lt, Bool, false, Option, Some, None, if◌then◌else◌}
use Rattle.std.specs.List.{slice_split, starts_with}
use Rattle.aa_text.specs.Excerpts.{without_return}

-- the lines of a text, without their ends
abbrev pub lines_in : List ℕ → List (List ℕ)
lines_in text = map without_return (slice_split (λ b. b == 10) text)

-- what stands behind a front, where the text begins so
abbrev pub behind : List ℕ → List ℕ → Option (List ℕ)
behind front text = if starts_with nat_eq text front then Some (drop (length front) text) else None

-- what stands on a line below a heading: such a line is indented
abbrev pub body_of : List ℕ → Option (List ℕ)
body_of line = behind (codes "  ") line

-- what stands on a line below such a line: it is indented further
abbrev pub deep_body_of : List ℕ → Option (List ℕ)
deep_body_of line = behind (codes "      ") line

-- a line is indented
abbrev pub is_indented : List ℕ → Bool
is_indented line = starts_with nat_eq line (codes "  ")

-- a line is indented further
abbrev pub is_deep : List ℕ → Bool
is_deep line = starts_with nat_eq line (codes "      ")

-- these lines begin below a heading, so that the line before them is one
abbrev pub is_below : List (List ℕ) → Bool
is_below [] = false
is_below (line ∷ lines) = is_indented line

-- what stands behind the digits at the front
abbrev pub after_digits : List ℕ → List ℕ
after_digits [] = []
after_digits (b ∷ rest) = if nat_lt b 48 || nat_lt 57 b then b ∷ rest else after_digits rest
