-- Lists in the order of a test.
-- Source: own.
use Rattle.std.specs.Prelude.{List, [], ◌∷◌, Bool, if◌then◌else◌}

-- an item put before the first of a list that doesn't come before it
abbrev pub put_in : {X : Type 0} → (X → X → Bool) → X → List X → List X
put_in before x [] = x ∷ []
put_in before x (y ∷ ys) = if before y x then y ∷ put_in before x ys else x ∷ y ∷ ys

-- a list in that order: the first item is put into what the rest is in that order, so that of two items of which neither comes before the
-- other the earlier one stays before the later one
abbrev pub sorted_by : {X : Type 0} → (X → X → Bool) → List X → List X
sorted_by before [] = []
sorted_by before (x ∷ xs) = put_in before x (sorted_by before xs)
