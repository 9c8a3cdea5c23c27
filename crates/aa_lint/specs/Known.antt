-- Findings that are accepted.
-- Source: own.
use Rattle.std.specs.Prelude.{ℕ, ◌==◌, ◌||◌, ◌&&◌, not, List, [], ◌∷◌, length, map, filter, flat_map, codes, nat_eq, nat_lt, Bool, if◌then◌else◌}
use Rattle.std.specs.List.{starts_with}
use Rattle.std.specs.Str.{bytes_eq}
use Rattle.aa_report.specs.Lines.{after_digits}
use Rattle.aa_report.specs.Accepted.{is_among, all_gone}
use Rattle.aa_lint.specs.Telling.{Telling}
use Rattle.aa_lint.specs.Lint.{AllTold}
use Rattle.aa_lint.specs.Shown.{line_of}

-- the finding, unless it is printed as one of the lines
abbrev pub unknown_if : List (List ℕ) → Telling → List Telling
unknown_if lines t = if is_among lines (line_of t) then [] else t ∷ []

-- those of which no line is there
abbrev pub unknown : List (List ℕ) → AllTold → AllTold
unknown lines all = record { told = flat_map (unknown_if lines) all.told; untold = all.untold }

-- a line that says how many findings there were, or how many files were skipped
abbrev pub is_count : List ℕ → Bool
is_count line =
    nat_lt (length (after_digits line)) (length line) && (bytes_eq (after_digits line) (codes " findings") || bytes_eq (after_digits line) (codes " files skipped"))

-- a line that is no finding's: it is empty, a comment, or such a count
abbrev pub is_aside : List ℕ → Bool
is_aside line = length line == 0 || starts_with nat_eq line (codes "#") || is_count line

-- the others
abbrev pub is_entry : List ℕ → Bool
is_entry line = not (is_aside line)

-- of which of these lines the finding isn't found
abbrev pub gone_among : List (List ℕ) → AllTold → List ℕ
gone_among lines all = all_gone (map line_of all.told) (filter is_entry lines)
