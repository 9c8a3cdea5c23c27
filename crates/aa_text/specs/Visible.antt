-- What is shown of bytes that a terminal may be handed.
-- Source: own.
use Rattle.std.specs.Prelude.{ℕ, List, map, not, nat_lt, ◌==◌, ◌&&◌, ◌||◌, if◌then◌else◌}

-- what is shown of a byte: no control byte but tab
abbrev pub visible : ℕ → ℕ
visible b = if (nat_lt b 32 && not (b == 9)) || b == 127 then 63 else b

-- bytes as they are shown
abbrev pub all_visible : List ℕ → List ℕ
all_visible bytes = map visible bytes
