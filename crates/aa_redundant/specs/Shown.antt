-- Redundant rules as they are printed.
-- Source: own.
use Rattle.std.specs.Prelude.{ℕ, ◌==◌, List, [], ◌∷◌, ◌++◌, length, flat_map, codes, decimal, Bool, if◌then◌else◌}
use Rattle.aa_text.specs.Visible.{all_visible}
use Rattle.aa_text.specs.Texts.{where_text}
use Rattle.aa_redundant.specs.Told.{Telling, Explained}

-- PLACE: WORD: RULE
unfoldable pub line_by : List ℕ → Telling → List ℕ
line_by word t = where_text t.path t.place ++ codes ": " ++ word ++ codes ": " ++ all_visible t.text

-- with its end
abbrev pub rule_line : List ℕ → Telling → List ℕ
rule_line word t = line_by word t ++ codes "\n"

-- the line of a redundant rule, without its end
abbrev pub line_of : Telling → List ℕ
line_of t = line_by (codes "redundant") t

-- WORD PLACE: RULE, indented
unfoldable pub other_line : List ℕ → Telling → List ℕ
other_line word t = codes "    " ++ word ++ codes " " ++ where_text t.path t.place ++ codes ": " ++ all_visible t.text ++ codes "\n"

-- whether the others say what the rule says, or decide otherwise
abbrev pub reason_word : Bool → List ℕ
reason_word is_covered = if is_covered then codes "covered by" else codes "overruled by"

-- the others, a line each; where even beside none the rule changes nothing, so
abbrev pub reason_lines : Bool → List Telling → List ℕ
reason_lines is_covered ts = if length ts == 0 then codes "    matches nothing that can be asked for\n" else flat_map (other_line (reason_word is_covered)) ts

-- a redundant rule, and why
abbrev pub explained_lines : Explained → List ℕ
explained_lines e = rule_line (codes "redundant") e.rule ++ reason_lines e.is_covered e.others

-- how many are redundant, and how many of these may go together
unfoldable pub count_line : ℕ → ℕ → List ℕ
count_line redundant going = decimal redundant ++ codes " redundant rules, of which " ++ decimal going ++ codes " may go together\n"

-- the place of one more of the others
unfoldable pub further_place : Telling → List ℕ
further_place t = codes ", " ++ where_text t.path t.place

-- why a rule is redundant, in words: the places of the others, or that even beside none it changes nothing
abbrev pub why_text : Bool → List Telling → List ℕ
why_text is_covered [] = codes "matches nothing that can be asked for"
why_text is_covered (t ∷ ts) = reason_word is_covered ++ codes " " ++ where_text t.path t.place ++ flat_map further_place ts

-- WHY: RULE
unfoldable pub finding_text : Explained → List ℕ
finding_text e = why_text e.is_covered e.others ++ codes ": " ++ all_visible e.rule.text

-- PLACE: warning: WHY: RULE [redundant]
unfoldable pub gcc_line : Explained → List ℕ
gcc_line e = where_text e.rule.path e.rule.place ++ codes ": warning: " ++ finding_text e ++ codes " [redundant]\n"

-- each that can go by itself, as a compiler writes it
abbrev pub gcc_lines : List Explained → List ℕ
gcc_lines redundant = flat_map gcc_line redundant

-- a rule that may lead to a profile of a skipped file
abbrev pub undecided_lines : Telling → List ℕ
undecided_lines t = rule_line (codes "undecided") t ++ codes "    may lead to a profile of a skipped file\n"

-- each that can go by itself with why, those that may lead to profiles of skipped files, those that can go together, and how many can
abbrev pub rules_text : List Explained → List Telling → List Telling → List ℕ
rules_text redundant undecided going =
    flat_map explained_lines redundant ++ flat_map undecided_lines undecided ++ flat_map (rule_line (codes "may go")) going
    ++ count_line (length redundant) (length going)
