-- The name that may have been meant by another.
-- Source: own.
use Rattle.std.specs.Prelude.{ℕ, List, is_some, unwrap_or, if◌then◌else◌}
use Rattle.aa_base.specs.Tables.{number_in}
use Rattle.aa_text.specs.Nearest.{nearest_name}

-- a name itself where it is one of these, or else the nearest of them, if one is near
unfoldable pub named : List (List ℕ) → List ℕ → List ℕ
named names name = if is_some (number_in names name) then name else unwrap_or (nearest_name names name) name
