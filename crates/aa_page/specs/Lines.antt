-- Lines of a list, and rules with their places.
-- Source: own.
use Rattle.std.specs.Prelude.{ℕ, List, ◌++◌, codes}
use Rattle.aa_text.specs.declared.position.PlaceAt.{PlaceAt}
use Rattle.aa_text.specs.Texts.{where_text}
use Rattle.aa_page.specs.declared.mark.Mark.{Mark}
use Rattle.aa_page.specs.Escaped.{code_text}
use Rattle.aa_page.specs.Marks.{class_of, mark_text}

-- the begin of a line
unfoldable pub line_start : Mark → List ℕ
line_start m = codes "<li class=\"" ++ class_of m ++ codes "\">" ++ mark_text m

-- the begin of a line without a mark
abbrev pub plain_start : List ℕ
plain_start = codes "<li>"

-- the end of a line
abbrev pub line_end : List ℕ
line_end = codes "</li>\n"

-- a path with a place in it
abbrev pub place_code : List ℕ → PlaceAt → List ℕ
place_code path place = code_text (where_text path place)

-- a rule: where it stands, and how it reads
unfoldable pub rule_line : Mark → List ℕ → PlaceAt → List ℕ → List ℕ
rule_line m path place rule = line_start m ++ place_code path place ++ codes " " ++ code_text rule ++ line_end
