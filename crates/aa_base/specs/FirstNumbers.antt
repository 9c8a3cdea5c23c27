-- Numbers by names: a name keeps the first.
-- Source: own.
use Rattle.std.specs.Prelude.{ℕ, ◌≡◌, List, Some, None, if◌then◌else◌}
use Rattle.std.specs.Option.{option_or}
use Rattle.std.specs.HashMap.{HashMap, get_by}
use Rattle.std.specs.Str.{bytes_eq}
use Rattle.std.specs.declared.vec.Vec.{Vec}

-- the map has that number for that name besides, unless it had one
abbrev pub AddsName : {Y S : Type 0} → HashMap (Vec ℕ Y) ℕ S → List ℕ → ℕ → HashMap (Vec ℕ Y) ℕ S → Type 0
AddsName before called number after = (name : List ℕ) → get_by (λ k. bytes_eq name k.items) after ≡ option_or (get_by (λ k. bytes_eq name k.items) before) (if bytes_eq name called then Some number else None)
