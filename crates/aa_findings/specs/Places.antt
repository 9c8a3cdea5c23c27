-- The places of elements in a list, and lists of such places by numbers.
-- Source: own.
use Rattle.std.specs.Prelude.{ℕ, suc, ◌-◌, ◌==◌, ◌&&◌, not, List, [], ◌∷◌, ◌++◌, length, map, Bool, false, if◌then◌else◌, slice_index_or, slice_set}
use Rattle.std.specs.List.{list_any, slice_get}
use Rattle.std.specs.Option.{option_map_or}
use Rattle.std.specs.declared.vec.Vec.{Vec}

-- the places, from k on, of the elements that pass a test
abbrev pub places_from : {X : Type 0} → (X → Bool) → ℕ → List X → List ℕ
places_from test k [] = []
places_from test k (x ∷ rest) = if test x then k ∷ places_from test (suc k) rest else places_from test (suc k) rest

-- those of a whole list
abbrev pub places : {X : Type 0} → (X → Bool) → List X → List ℕ
places test xs = places_from test 0 xs

-- the number is among these
abbrev pub has : ℕ → List ℕ → Bool
has n numbers = list_any (λ k. k == n) numbers

-- the lists that vectors hold
abbrev pub lists : {Y : Type 0} → List (Vec ℕ Y) → List (List ℕ)
lists vectors = map (λ v. v.items) vectors

-- the list of a number
abbrev pub list_at : List (List ℕ) → ℕ → List ℕ
list_at index n = slice_index_or index n []

-- the place stands at the end
abbrev pub is_last : ℕ → List ℕ → Bool
is_last place numbers = not (length numbers == 0) && slice_index_or numbers (length numbers - 1) 0 == place

-- the place is added to the list of a number, unless it stands at its end
abbrev pub with_place : ℕ → ℕ → List (List ℕ) → List (List ℕ)
with_place place n index = if is_last place (list_at index n) then index else slice_set index n (list_at index n ++ place ∷ [])

-- the element at that place passes the test
abbrev pub at_place : {X : Type 0} → (X → Bool) → List X → ℕ → Bool
at_place test xs n = option_map_or test (slice_get xs n) false

-- what the element at that place gives
abbrev pub given_at : {X Y : Type 0} → (X → List Y) → List X → ℕ → List Y
given_at f xs n = option_map_or f (slice_get xs n) []
