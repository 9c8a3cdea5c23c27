-- Rules without some of them.
-- Source: own.
use Rattle.std.specs.Prelude.{ℕ, suc, List, [], ◌∷◌, Bool, false, ◌==◌, ◌&&◌, ◌||◌, not, nat_lt, if◌then◌else◌, slice_index_or}

-- those that aren't gone, by numbers from k on
abbrev pub without_from : {X : Type 0} → (ℕ → Bool) → ℕ → List X → List X
without_from gone k [] = []
without_from gone k (x ∷ xs) = if gone k then without_from gone (suc k) xs else x ∷ without_from gone (suc k) xs

-- those that aren't gone, by their numbers
abbrev pub without : {X : Type 0} → (ℕ → Bool) → List X → List X
without gone xs = without_from gone 0 xs

-- the number is that one
abbrev pub only : ℕ → ℕ → Bool
only i n = n == i

-- the number is marked
abbrev pub marked : List Bool → ℕ → Bool
marked flags n = slice_index_or flags n false

-- those that are marked are gone, or all others
abbrev pub gone_by : Bool → List Bool → ℕ → Bool
gone_by gone flags n = if gone then marked flags n else not (marked flags n)

-- the number is that one, or marked and behind it
abbrev pub with_later : List Bool → ℕ → ℕ → Bool
with_later flags i n = n == i || (nat_lt i n && marked flags n)
