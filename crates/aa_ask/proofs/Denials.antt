-- Whether a verdict of some is denied, as it is told.
use Rattle.std.proofs.Common.{◌≡◌, List, [], ◌∷◌, Bool, not, map, refl, ap}
use Rattle.std.specs.Prelude.{◌||◌}
use Rattle.std.specs.List.{list_any}
use Rattle.aa_ask.specs.declared.verdict.Verdict.{Verdict}
use Rattle.aa_ask.specs.Told.{Told, told}

pub any_told : (vs : List Verdict) → list_any (λ (v : Verdict). not v.granted) vs ≡ list_any (λ (t : Told). not t.granted) (map told vs)
any_told [] = refl
any_told (v ∷ vs) = ap (λ (b : Bool). not v.granted || b) (any_told vs)
