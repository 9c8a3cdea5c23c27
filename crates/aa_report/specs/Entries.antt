-- What a text accepts that has findings in blocks: each is its line behind the heading of its block.
-- Source: own.
use Rattle.std.specs.Prelude.{ℕ, ◌==◌, ◌||◌, ◌&&◌, not, List, [], ◌∷◌, ◌++◌, length, filter, codes, nat_eq, nat_lt, Bool, false, Option, Some, None, if◌then◌else◌}
use Rattle.std.specs.List.{starts_with}
use Rattle.std.specs.Str.{bytes_eq}
use Rattle.aa_report.specs.Lines.{lines_in, body_of, is_indented, is_deep, is_below, after_digits}

-- a line that isn't read: it is empty, a comment, or what stands below a finding
abbrev pub is_passed : List ℕ → Bool
is_passed line = length line == 0 || starts_with nat_eq line (codes "#") || is_deep line

-- the others
abbrev pub is_read : List ℕ → Bool
is_read line = not (is_passed line)

-- the word stands somewhere in the line
abbrev pub holds : List ℕ → List ℕ → Bool
holds word [] = false
holds word (b ∷ bs) = starts_with nat_eq (b ∷ bs) word || holds word bs

-- a number counts profiles that were compared, one or more, or files that were skipped
abbrev pub is_counted : List ℕ → Bool
is_counted rest =
    (starts_with nat_eq rest (codes " profiles compared: ") || starts_with nat_eq rest (codes " profile compared: "))
    || bytes_eq rest (codes " files skipped")

-- a line that says how many profiles were compared, or how many files were skipped
abbrev pub is_total : List ℕ → Bool
is_total line = nat_lt (length (after_digits line)) (length line) && is_counted (after_digits line)

-- a line that says what isn't told
abbrev pub is_doubt : List ℕ → Bool
is_doubt line = holds (codes " undecided: ") line || holds (codes " not compared: ") line

-- a line that is no finding's, which isn't indented, and behind which there is one that is or not
abbrev pub is_aside : Bool → List ℕ → Bool
is_aside heads line = heads || is_total line || is_doubt line

-- how a line stands by itself: behind the heading of its block
abbrev pub in_block : List ℕ → List ℕ → List ℕ
in_block heading body = heading ++ codes ": " ++ body

-- the finding of a line, if it is one's, with what stands on it where it is indented
abbrev pub entry_by : List ℕ → Bool → List ℕ → Option (List ℕ) → List (List ℕ)
entry_by heading heads line None = if is_aside heads line then [] else line ∷ []
entry_by heading heads line (Some body) = in_block heading body ∷ []

-- the finding of a line, if it is one's
abbrev pub entry_of : List ℕ → Bool → List ℕ → List (List ℕ)
entry_of heading heads line = entry_by heading heads line (body_of line)

-- the heading of what stands behind a line
abbrev pub heading_behind : List ℕ → List ℕ → List ℕ
heading_behind heading line = if is_indented line then heading else line

-- the findings of lines behind a heading
abbrev pub entries_from : List ℕ → List (List ℕ) → List (List ℕ)
entries_from heading [] = []
entries_from heading (line ∷ lines) = entry_of heading (is_below lines) line ++ entries_from (heading_behind heading line) lines

-- those of a text
abbrev pub entries_in : List ℕ → List (List ℕ)
entries_in text = entries_from [] (filter is_read (lines_in text))
