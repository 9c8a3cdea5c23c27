-- What stands in a text behind a part of it.
-- Source: own.
use Rattle.std.specs.Prelude.{ℕ, ◌-◌, ◌==◌, nat_eq, List, [], ◌∷◌, length, take, drop, Bool, false, if◌then◌else◌, Option, Some, None, slice_get}
use Rattle.std.specs.List.{starts_with}

-- what stands behind a front
abbrev pub behind_front : List ℕ → List ℕ → Option (List ℕ)
behind_front front text = if starts_with nat_eq text front then Some (drop (length front) text) else None

-- what stands behind a part where it stands first
unfoldable pub behind_part : List ℕ → List ℕ → Option (List ℕ)
behind_part part [] = None
behind_part part (b ∷ bs) = if starts_with nat_eq (b ∷ bs) part then Some (drop (length part) (b ∷ bs)) else behind_part part bs

-- the byte is a closing bracket
abbrev pub is_bracket : Option ℕ → Bool
is_bracket None = false
is_bracket (Some b) = b == 93

-- what stands before the bracket that ends a text
abbrev pub before_bracket : List ℕ → Option (List ℕ)
before_bracket text = if is_bracket (slice_get text (length text - 1)) then Some (take (length text - 1) text) else None
