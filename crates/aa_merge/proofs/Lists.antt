-- The values of a list.
use Rattle.std.proofs.Common.{◌≡◌, List, [], ◌∷◌, map, refl, ap}
use Rattle.json.specs.Json.{Json}
use Rattle.json.specs.Value.{value_view, items_view}
use Rattle.json.specs.declared.value.Value.{Value}
use Rattle.aa_merge.specs.Reading.{json_list}

pub listed : {A : Type 0} → (vs : List (Value A)) → map value_view vs ≡ json_list (items_view vs)
listed [] = refl
listed (v ∷ vs) = ap (λ (l : List Json). value_view v ∷ l) (listed vs)
