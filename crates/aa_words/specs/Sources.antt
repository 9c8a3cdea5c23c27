-- The sources: names and texts, in the order in which they were added.
-- Source: own.
use Rattle.std.specs.Prelude.{ℕ, List, map, Bool}
use Rattle.std.specs.List.{list_any}
use Rattle.std.specs.Str.{bytes_eq}
use Rattle.std.specs.Global.{Vec}

-- names and texts, in the order in which they were added
abbrev pub entries : List (Vec ℕ × Vec ℕ) → List (List ℕ × List ℕ)
entries list = map (λ e. (e.0.items, e.1.items)) list

-- a source of that name is there
abbrev pub has_name : List ℕ → List (List ℕ × List ℕ) → Bool
has_name name list = list_any (λ e. bytes_eq name e.0) list
