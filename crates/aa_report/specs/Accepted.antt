-- Findings that are accepted.
-- Source: own.
use Rattle.std.specs.Prelude.{ℕ, List, [], ◌++◌, flat_map, codes, Bool, if◌then◌else◌}
use Rattle.std.specs.List.{list_any}
use Rattle.std.specs.Str.{bytes_eq}
use Rattle.aa_text.specs.Visible.{all_visible}

-- the line is one of these
abbrev pub is_among : List (List ℕ) → List ℕ → Bool
is_among lines line = list_any (bytes_eq line) lines

-- that the finding of a line isn't found
unfoldable pub gone_text : List ℕ → List ℕ
gone_text line = codes "warning: accepted and not found: " ++ all_visible line ++ codes "\n"

-- where so it is: it is none of the lines that are found
abbrev pub gone_if : List (List ℕ) → List ℕ → List ℕ
gone_if found line = if is_among found line then [] else gone_text line

-- so of each line
abbrev pub all_gone : List (List ℕ) → List (List ℕ) → List ℕ
all_gone found lines = flat_map (gone_if found) lines
