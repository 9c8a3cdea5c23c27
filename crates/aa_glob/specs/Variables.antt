-- Variables: names and their values, in order.
use Rattle.std.specs.Prelude.{ℕ, List, [], ◌∷◌, ◌++◌, map, Bool, if◌then◌else◌, Option, Some, None, Vec}
use Rattle.std.specs.List.{list_any}
use Rattle.std.specs.Str.{bytes_eq}
use Rattle.std.specs.Global.{Global}

-- a variable's name, and its values in order
pub record Variable : Type 0 where
  pub name : List ℕ
  pub values : List (List ℕ)

-- a variable of that name is there
abbrev pub has_name : List ℕ → List Variable → Bool
has_name name vars = list_any (λ v. bytes_eq name v.name) vars

-- the values of the variable with that name
unfoldable pub values_of : List Variable → List ℕ → Option (List (List ℕ))
values_of [] name = None
values_of (v ∷ vs) name = if bytes_eq name v.name then Some v.values else values_of vs name

-- the values are added at the end of those of that name
unfoldable pub with_more : List ℕ → List (List ℕ) → List Variable → List Variable
with_more name more [] = []
with_more name more (v ∷ vs) = if bytes_eq name v.name then record { name = v.name; values = v.values ++ more } ∷ vs else v ∷ with_more name more vs

-- the variable that an entry of a table is
abbrev pub variable : Vec ℕ Global × Vec (Vec ℕ Global) Global → Variable
variable p = record { name = p.0.items; values = map (λ v. v.items) p.1.items }
