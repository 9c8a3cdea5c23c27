-- The place of a byte in a text, as editors count it: lines and columns from 1.
-- Source: UTF-8; own.
use Rattle.std.specs.Prelude.{ℕ, ◌+◌, ◌<◌, ◌≡◌, ◌⊎◌, ◌==◌, ◌&&◌, nat_le, List, [], ◌∷◌, length, take, slice_index, Bool, true, not, if◌then◌else◌}
use Rattle.std.specs.List.{count_by, list_any}
use Rattle.aa_text.specs.declared.place.Place.{Place}

-- LF
abbrev pub is_line_end : ℕ → Bool
is_line_end b = b == 10

-- in UTF-8 the bytes 0x80 to 0xBF go on with a character, and each other byte begins one
abbrev pub goes_on : ℕ → Bool
goes_on b = nat_le 128 b && nat_le b 191

-- the byte is the first of a character
abbrev pub begins_character : ℕ → Bool
begins_character b = not (goes_on b)

-- what stands behind the last line end
unfoldable pub last_line : List ℕ → List ℕ
last_line [] = []
last_line (b ∷ bs) =
    if list_any is_line_end bs then last_line bs
    else (if is_line_end b then bs else b ∷ bs)

-- the place behind a text: a line more than it has line ends, a column more than characters begin behind the last of them
unfoldable pub place_behind : List ℕ → Place
place_behind before = record {
  line = count_by is_line_end before + 1;
  column = count_by begins_character (last_line before) + 1;
}

-- the place of a byte: that behind the bytes before it
abbrev pub place_in : List ℕ → ℕ → Place
place_in text byte = place_behind (take byte text)

-- on an earlier line, or on the same one at an earlier column
abbrev pub IsBefore : Place → Place → Type 0
IsBefore p q = (p.line < q.line) ⊎ ((p.line ≡ q.line) × (p.column < q.column))

-- Each byte that begins a character stands before all later bytes, so no two of them have one place.
abbrev pub PlacesRise : Type 0
PlacesRise = (text : List ℕ) (i j : ℕ) → i < j → i < length text → begins_character (slice_index text i) ≡ true → IsBefore (place_in text i) (place_in text j)
