-- Lists with an item at least.
-- Source: own.
use Rattle.std.specs.Prelude.{ℕ, List, [], ◌∷◌, Bool, true, false}

-- the list isn't empty
abbrev pub is_some_of : List (List ℕ) → Bool
is_some_of [] = false
is_some_of (text ∷ texts) = true
