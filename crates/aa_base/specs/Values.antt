-- How names and sets of permissions are written in a line.
-- Source: apparmor.d(5), "Access Modes"; own.
use Rattle.std.specs.Prelude.{ℕ, List, [], ◌∷◌, ◌++◌, Bool, not, ◌==◌, ◌&&◌, nat_le, if◌then◌else◌, flat_map, bit_and}
use Rattle.std.specs.List.{list_all}
use Rattle.aa_base.specs.Hex.{hex_pair}

-- a byte that stands for itself between quotes: ! to ~ without the quote
abbrev pub is_shown : ℕ → Bool
is_shown b = nat_le 33 b && nat_le b 126 && not (b == 34)

-- a text between quotes
unfoldable pub quoted : List ℕ → List ℕ
quoted text = (34 ∷ text) ++ 34 ∷ []

-- bytes between quotes where all stand for themselves, else in hexadecimal
unfoldable pub value : List ℕ → List ℕ
value bytes = if list_all is_shown bytes then quoted bytes else flat_map hex_pair bytes

-- the letter of a permission that a set has
abbrev pub letter : ℕ → ℕ → ℕ → List ℕ
letter bits bit c = if bit_and bits bit == bit then c ∷ [] else []

-- the letters of a set, in the order rwalkmx
unfoldable pub letters : ℕ → List ℕ
letters bits =
    letter bits 1 114 ++ letter bits 2 119 ++ letter bits 4 97 ++ letter bits 8 108 ++ letter bits 16 107
    ++ letter bits 32 109 ++ letter bits 64 120

-- the letters between quotes
abbrev pub mask : ℕ → List ℕ
mask bits = quoted (letters bits)
