-- How an include names its source.
-- Source: apparmor.d(5), "#include mechanism".
use Rattle.std.specs.Prelude.{ℕ, ◌==◌, ◌||◌, List, find, Bool, false, Option, Some, None}

-- the byte opens an include's name
abbrev pub opens_name : ℕ → Bool
opens_name b = b == 60 || b == 34

-- the byte is <
abbrev pub is_angle : Option ℕ → Bool
is_angle None = false
is_angle (Some b) = b == 60

-- the first of the signs that open a name is <
abbrev pub names_in_angles : List ℕ → Bool
names_in_angles include = is_angle (find opens_name include)
