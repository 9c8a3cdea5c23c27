-- Places as they are printed.
-- Source: own.
use Rattle.std.specs.Prelude.{ℕ, List, ◌++◌, codes, decimal}
use Rattle.aa_text.specs.declared.position.PlaceAt.{PlaceAt}
use Rattle.aa_text.specs.Visible.{all_visible}

-- a line and a column, each behind a colon
abbrev pub line_and_column : ℕ → ℕ → List ℕ
line_and_column line column = codes ":" ++ decimal line ++ codes ":" ++ decimal column

-- a line and a column, each behind a colon
unfoldable pub place_text : PlaceAt → List ℕ
place_text p = line_and_column p.line p.column

-- a path as it is shown, and a place in it
abbrev pub where_text : List ℕ → PlaceAt → List ℕ
where_text path place = all_visible path ++ place_text place
