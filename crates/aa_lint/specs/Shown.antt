-- Findings as they are printed.
-- Source: the GNU coding standards, "Formatting Error Messages"; own.
use Rattle.std.specs.Prelude.{ℕ, List, [], ◌++◌, length, flat_map, codes, decimal, Option, Some, None}
use Rattle.aa_base.specs.Values.{value}
use Rattle.aa_text.specs.Visible.{all_visible}
use Rattle.aa_text.specs.Texts.{where_text}
use Rattle.aa_lint.specs.Names.{name_of, why_of}
use Rattle.aa_lint.specs.Telling.{Standing, Telling}

-- the rule, if it is one's
abbrev pub rule_part : Option (List ℕ) → List ℕ
rule_part None = []
rule_part (Some rule) = codes ": " ++ all_visible rule

-- where the rule stands that is said again
abbrev pub earlier_part : Option Standing → List ℕ
earlier_part None = []
earlier_part (Some s) = where_text s.path s.place

-- the profile that ties
abbrev pub other_part : Option (List ℕ) → List ℕ
other_part None = []
other_part (Some name) = value name ++ codes ", as to "

-- a path that shows it
abbrev pub witness_part : Option (List ℕ) → List ℕ
witness_part None = []
witness_part (Some path) = value path

-- why it is a finding
unfoldable pub why_text : Telling → List ℕ
why_text t = why_of t.kind ++ earlier_part t.earlier ++ other_part t.other ++ witness_part t.witness

-- PROFILE: WHY: RULE
unfoldable pub finding_text : Telling → List ℕ
finding_text t = value t.profile ++ codes ": " ++ why_text t ++ rule_part t.rule

-- PLACE: NAME: PROFILE: WHY: RULE
unfoldable pub line_of : Telling → List ℕ
line_of t = where_text t.at.path t.at.place ++ codes ": " ++ name_of t.kind ++ codes ": " ++ finding_text t

-- with its end
abbrev pub line_text : Telling → List ℕ
line_text t = line_of t ++ codes "\n"

-- each, and how many these are
abbrev pub lines_text : List Telling → List ℕ
lines_text all = flat_map line_text all ++ decimal (length all) ++ codes " findings\n"

-- PLACE: warning: PROFILE: WHY: RULE [NAME]
unfoldable pub gcc_line : Telling → List ℕ
gcc_line t = where_text t.at.path t.at.place ++ codes ": warning: " ++ finding_text t ++ codes " [" ++ name_of t.kind ++ codes "]\n"

-- each
abbrev pub gcc_lines : List Telling → List ℕ
gcc_lines all = flat_map gcc_line all
