-- The shortest of some paths.
-- Source: own.
use Rattle.std.specs.Prelude.{ℕ, zero, suc, List, [], length, nat_le, Option, Some, None, if◌then◌else◌, slice_index_or}

-- the other one where it is shorter
abbrev pub nearer : Option (List ℕ) → List ℕ → List ℕ
nearer None other = other
nearer (Some best) other = if nat_le (length best) (length other) then best else other

-- the first of the shortest of the first n, if there are any
abbrev pub nearest : List (List ℕ) → ℕ → Option (List ℕ)
nearest texts zero = None
nearest texts (suc n) = Some (nearer (nearest texts n) (slice_index_or texts n []))
