-- Who is wanted.
-- Source: own.
use Rattle.std.specs.Prelude.{ℕ, List, ◌==◌, ◌||◌, length, Bool}
use Rattle.std.specs.List.{list_any}
use Rattle.std.specs.Str.{bytes_eq}

-- the name is one of these, or there are none
abbrev pub is_named : List (List ℕ) → List ℕ → Bool
is_named names name = length names == 0 || list_any (λ n. bytes_eq n name) names
