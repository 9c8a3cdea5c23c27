-- What the fields of a line tell: texts, names, numbers.
-- Source: own.
use Rattle.std.specs.Prelude.{ℕ, ◌+◌, ◌-◌, ◌*◌, ◌^◌, ◌&&◌, nat_le, nat_lt, nat_eq, List, [], ◌∷◌, reverse, find, Bool, if◌then◌else◌, Option, Some, None, option_map}
use Rattle.std.specs.List.{starts_with}
use Rattle.std.specs.Str.{bytes_eq}
use Rattle.aa_logs.specs.Words.{WordData}
use Rattle.aa_logs.specs.Values.{name_in}

-- the field with that key; a key that comes twice counts with its last value
unfoldable pub field_in : List ℕ → List WordData → Option WordData
field_in key ws = find (λ w. bytes_eq w.key key) (reverse ws)

-- its value as it stands, and the name that it is
abbrev pub raw_in : List ℕ → List WordData → Option (List ℕ)
raw_in key ws = option_map (λ w. w.text) (field_in key ws)

-- the name that the value of a field stands for
abbrev pub text_in : List ℕ → List WordData → Option (List ℕ)
text_in key ws = option_map name_in (field_in key ws)

-- the first place at which a part stands in a text
unfoldable pub place_of : List ℕ → List ℕ → Option ℕ
place_of part [] = None
place_of part (b ∷ bs) = if starts_with nat_eq (b ∷ bs) part then Some 0 else option_map (λ n. n + 1) (place_of part bs)

-- a decimal digit
abbrev pub is_digit : ℕ → Bool
is_digit b = nat_le 48 b && nat_le b 57

-- a number with these digits behind it, while it is below 2^64
unfoldable pub number_from : ℕ → List ℕ → Option ℕ
number_from n [] = Some n
number_from n (b ∷ bs) = if is_digit b && nat_lt (10 * n + (b - 48)) (2 ^ 64) then number_from (10 * n + (b - 48)) bs else None

-- a decimal number below 2^64
unfoldable pub number_in : List ℕ → Option ℕ
number_in [] = None
number_in (b ∷ bs) = number_from 0 (b ∷ bs)
