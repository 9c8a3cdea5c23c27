-- The name that was meant by a word that is none.
-- Source: V. Levenshtein, "Binary codes capable of correcting deletions, insertions, and reversals"; own.
use Rattle.std.specs.Prelude.{ℕ, ◌+◌, ◌==◌, ◌||◌, ◌&&◌, nat_le, List, [], ◌∷◌, drop, length, find, Bool, true, Option, if◌then◌else◌}
use Rattle.std.specs.Option.{option_or}
use Rattle.std.specs.Str.{bytes_eq}

-- with how many bytes both texts begin
unfoldable pub common : List ℕ → List ℕ → ℕ
common [] ys = 0
common (x ∷ xs) [] = 0
common (x ∷ xs) (y ∷ ys) = if x == y then 1 + common xs ys else 0

-- a byte is put in, left out or changed where one text begins, and the rest is related
abbrev pub edited : (List ℕ → List ℕ → Bool) → List ℕ → List ℕ → Bool
edited related [] [] = true
edited related [] (y ∷ ys) = related [] ys
edited related (x ∷ xs) [] = related xs []
edited related (x ∷ xs) (y ∷ ys) = related xs ys || related xs (y ∷ ys) || related (x ∷ xs) ys

-- the same where both texts go on differently
abbrev pub edited_behind : (List ℕ → List ℕ → Bool) → List ℕ → List ℕ → Bool
edited_behind related xs ys = edited related (drop (common xs ys) xs) (drop (common xs ys) ys)

-- one edit at most makes one text of the other
unfoldable pub is_within_one : List ℕ → List ℕ → Bool
is_within_one xs ys = edited_behind bytes_eq xs ys

-- two edits at most
unfoldable pub is_within_two : List ℕ → List ℕ → Bool
is_within_two xs ys = edited_behind is_within_one xs ys

-- the same of a word that isn't too short to tell then
abbrev pub is_near : List ℕ → List ℕ → Bool
is_near word name = nat_le 4 (length word) && is_within_two word name

-- of some names the first that one edit makes of a word, or else two
abbrev pub nearest_name : List (List ℕ) → List ℕ → Option (List ℕ)
nearest_name names word = option_or (find (is_within_one word) names) (find (is_near word) names)
