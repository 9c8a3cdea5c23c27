-- Profiles of which nothing can be found.
-- Source: own.
use Rattle.std.specs.Prelude.{ℕ, List, ◌++◌, codes}
use Rattle.aa_base.specs.Values.{value}

-- of which profile nothing can be found, and why
unfoldable pub untold_text : List ℕ → List ℕ → List ℕ
untold_text name why = codes "of " ++ value name ++ codes " nothing is found: " ++ why
