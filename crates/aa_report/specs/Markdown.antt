-- A report as Markdown: its headings, its lines and what stands below them as lists, each text of it in code spans.
-- Source: CommonMark, "ATX headings", "List items", "Code spans"; own.
use Rattle.std.specs.Prelude.{ℕ, List, [], ◌∷◌, ◌++◌, ◌==◌, length, codes, Bool, true, false, Option, Some, None, if◌then◌else◌}
use Rattle.aa_report.specs.Lines.{lines_in, body_of, deep_body_of, is_below}
use Rattle.aa_report.specs.Spans.{shown_span}

-- a line of a list, of which what stands before it is given: its sign, a space, and the rest
abbrev pub item_text : List ℕ → List ℕ → List ℕ
item_text front [] = []
item_text front (sign ∷ []) = front ++ shown_span (sign ∷ []) ++ codes "\n"
item_text front (sign ∷ space ∷ rest) = front ++ shown_span (sign ∷ []) ++ codes " " ++ shown_span rest ++ codes "\n"

-- an empty line, where something stands before
abbrev pub gap : Bool → List ℕ
gap before = if before then codes "\n" else []

-- a heading
unfoldable pub heading_text : Bool → List ℕ → List ℕ
heading_text before line = gap before ++ codes "### " ++ shown_span line ++ codes "\n\n"

-- a paragraph
unfoldable pub paragraph_text : Bool → List ℕ → List ℕ
paragraph_text before line = gap before ++ shown_span line ++ codes "\n"

-- a line that isn't indented: a heading, where one stands behind it that is
abbrev pub outer_text : Bool → Bool → List ℕ → List ℕ
outer_text before heads line = if heads then heading_text before line else paragraph_text before line

-- a line that isn't indented further, with what stands on it where it is indented
abbrev pub upper_text : Bool → Bool → List ℕ → Option (List ℕ) → List ℕ
upper_text before heads line None = outer_text before heads line
upper_text before heads line (Some body) = item_text (codes "- ") body

-- a line, with what stands on it where it is indented further
abbrev pub text_by : Bool → Bool → List ℕ → Option (List ℕ) → List ℕ
text_by before heads line None = upper_text before heads line (body_of line)
text_by before heads line (Some body) = item_text (codes "  - ") body

-- a line
abbrev pub line_text : Bool → Bool → List ℕ → List ℕ
line_text before heads line = if length line == 0 then [] else text_by before heads line (deep_body_of line)

-- lines, behind something or not
abbrev pub lines_text : Bool → List (List ℕ) → List ℕ
lines_text before [] = []
lines_text before (line ∷ lines) = line_text before (is_below lines) line ++ lines_text true lines

-- those of a report
abbrev pub markdown_of : List ℕ → List ℕ
markdown_of text = lines_text false (lines_in text)
