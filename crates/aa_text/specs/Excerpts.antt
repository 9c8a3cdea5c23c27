-- The line of a place with a caret below it.
-- Source: own.
use Rattle.std.specs.Prelude.{ℕ, zero, suc, ◌+◌, ◌-◌, ◌==◌, nat_lt, List, [], ◌∷◌, ◌++◌, length, take, drop, flat_map, min, replicate}
use Rattle.std.specs.Prelude.{codes, decimal, slice_index, Bool, false, not, if◌then◌else◌, unwrap_or, chars}
use Rattle.std.specs.List.{take_while}
use Rattle.std.specs.Str.{is_utf8}
use Rattle.unicode_width.specs.Width.{char_width}
use Rattle.aa_text.specs.Places.{is_line_end, goes_on, last_line, place_in}
use Rattle.aa_text.specs.Visible.{all_visible}

-- what stands before the first line end
abbrev pub first_line : List ℕ → List ℕ
first_line text = take_while (λ b. not (is_line_end b)) text

-- a CR before the line's end is none of its bytes
abbrev pub without_return : List ℕ → List ℕ
without_return line = if slice_index line (length line - 1) == 13 then take (length line - 1) line else line

-- the line on which a byte stands, and how many of its bytes stand before it
abbrev pub line_of : List ℕ → ℕ → List ℕ
line_of text byte = without_return (last_line (take byte text) ++ first_line (drop byte text))

-- how many bytes of its line stand before the byte
abbrev pub offset_of : List ℕ → ℕ → ℕ
offset_of text byte = length (last_line (take byte text))

-- Of a longer line 160 bytes are shown: from 80 before the place on, or the first or the last 160.
abbrev pub window_start : List ℕ → ℕ → ℕ
window_start line offset = min (offset - 80) (length line - 160)

-- what is left behind the rest of a character that was cut
unfoldable pub from_character : List ℕ → List ℕ
from_character [] = []
from_character (b ∷ bs) = if goes_on b then from_character bs else b ∷ bs

-- the last place up to this one at which no character is cut
unfoldable pub character_end : List ℕ → ℕ → ℕ
character_end line zero = 0
character_end line (suc n) = if goes_on (slice_index line (suc n)) then character_end line n else suc n

-- the bytes of a line between two places, without a character that is cut at the first
abbrev pub behind_cut : ℕ → List ℕ → List ℕ
behind_cut start bytes = if start == 0 then bytes else from_character (drop start bytes)

-- where a line is cut, two dots stand
abbrev pub dots : Bool → List ℕ
dots cut = if cut then codes ".." else []

-- how many columns of a terminal a character takes: a control byte stands as one sign
abbrev pub columns : ℕ → ℕ
columns c = unwrap_or (char_width false c) 1

-- below a tab stands a tab, and below every other character as many spaces as it takes columns
abbrev pub below : ℕ → List ℕ
below c = if c == 9 then 9 ∷ [] else replicate (columns c) 32

-- the same of bytes that are no UTF-8, each character one column wide
abbrev pub blank : ℕ → List ℕ
blank b = if b == 9 then 9 ∷ [] else (if goes_on b then [] else 32 ∷ [])

-- what stands below bytes
unfoldable pub all_below : List ℕ → List ℕ
all_below bytes = if is_utf8 bytes then flat_map below (chars bytes) else flat_map blank bytes

-- what is shown of the line from the window's start on, and what stands below it up to the caret
unfoldable pub shown_from : ℕ → List ℕ → List ℕ
shown_from start line =
    dots (nat_lt 0 start) ++ all_visible (behind_cut start (take (character_end line (start + 160)) line)) ++ dots (nat_lt (start + 160) (length line))

-- the blanks below a line's front, up to the caret
unfoldable pub blanks_from : ℕ → ℕ → List ℕ → List ℕ
blanks_from start offset line =
    (if nat_lt 0 start then codes "  " else []) ++ all_below (behind_cut start (take offset line))

-- a number, right-aligned to five columns
unfoldable pub aligned : ℕ → List ℕ
aligned n = replicate (5 - length (decimal n)) 32 ++ decimal n

-- a line with its number, and below it a caret
abbrev pub excerpt_at : ℕ → List ℕ → ℕ → List ℕ
excerpt_at number line offset =
    aligned number ++ codes " | " ++ shown_from (window_start line offset) line ++ codes "\n"
    ++ codes "      | " ++ blanks_from (window_start line offset) offset line ++ codes "^\n"

-- the line's number and bytes, and below its place a caret
abbrev pub excerpt_of : List ℕ → ℕ → List ℕ
excerpt_of text byte = excerpt_at ((place_in text byte).line) (line_of text byte) (offset_of text byte)
