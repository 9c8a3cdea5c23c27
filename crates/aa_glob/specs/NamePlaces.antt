-- Where variables stand, by their names.
use Rattle.std.specs.Prelude.{ℕ, suc, ◌≡◌, List, [], ◌∷◌, map, if◌then◌else◌, Option, Some, None, option_map, Vec}
use Rattle.std.specs.Global.{Global}
use Rattle.std.specs.Map.{lookup}
use Rattle.std.specs.Ordering.{is_eq, nat_cmp}
use Rattle.std.specs.Cmp.Lexicographic.{slice_cmp}
use Rattle.std.specs.Str.{bytes_eq}
use Rattle.aa_glob.specs.Variables.{Variable, variable}

-- the place of the first variable of that name
abbrev pub place_of : List ℕ → List Variable → Option ℕ
place_of name [] = None
place_of name (v ∷ vs) = if bytes_eq name v.name then Some 0 else option_map suc (place_of name vs)

-- each name is looked up at its place in the table
abbrev pub ArePlaces : List (Vec ℕ Global × ℕ) → List (Vec ℕ Global × Vec (Vec ℕ Global) Global) → Type 0
ArePlaces places table = (name : List ℕ) → lookup (λ k. is_eq (slice_cmp nat_cmp name k.items)) places ≡ place_of name (map variable table)
