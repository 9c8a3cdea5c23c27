-- Code spans of Markdown, which no text in them ends.
-- Source: CommonMark, "Code spans"; own.
use Rattle.std.specs.Prelude.{ℕ, List, [], ◌∷◌, ◌++◌, ◌==◌, ◌||◌, flat_map, codes, Bool, true, if◌then◌else◌}
use Rattle.std.specs.List.{list_any}
use Rattle.aa_text.specs.Visible.{all_visible}

-- a byte, if it is a backquote
abbrev pub tick_if : ℕ → List ℕ
tick_if b = if b == 96 then b ∷ [] else []

-- what stands before and behind a text: its backquotes and one more, so that no run of them in it is as long
unfoldable pub fence : List ℕ → List ℕ
fence text = flat_map tick_if text ++ codes "`"

-- the text is empty, or a space stands first
abbrev pub is_blank_first : List ℕ → Bool
is_blank_first [] = true
is_blank_first (b ∷ bs) = b == 32

-- a text beside whose fence a space stands, which isn't read: where a backquote could stand beside it, or a space wouldn't be read
abbrev pub is_padded : List ℕ → Bool
is_padded text = is_blank_first text || list_any (λ b. b == 96) text

-- that space
abbrev pub pad : List ℕ → List ℕ
pad text = if is_padded text then codes " " else []

-- a text as a code span
unfoldable pub span : List ℕ → List ℕ
span text = fence text ++ pad text ++ text ++ pad text ++ fence text

-- bytes as they are shown, as a code span
abbrev pub shown_span : List ℕ → List ℕ
shown_span bytes = span (all_visible bytes)
