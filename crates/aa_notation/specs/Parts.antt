-- Parts of a word.
use Rattle.std.specs.Prelude.{ℕ, ◌+◌, nat_eq, nat_lt, List, [], ◌∷◌, length, take, drop}
use Rattle.std.specs.Prelude.{Bool, ◌&&◌, if◌then◌else◌, Option, Some, None, option_map}
use Rattle.std.specs.List.{starts_with, list_all}
use Rattle.aa_model.specs.Requests.{is_path}

-- the first place at which a part stands in a text
unfoldable pub place_of : List ℕ → List ℕ → Option ℕ
place_of part [] = None
place_of part (b ∷ bs) = if starts_with nat_eq (b ∷ bs) part then Some 0 else option_map (λ n. n + 1) (place_of part bs)

-- what stands before the first such part, and what stands behind it
abbrev pub split_in : List ℕ → List ℕ → Option (List ℕ × List ℕ)
split_in part text = option_map (λ n. (take n text, drop (n + length part) text)) (place_of part text)

-- what stands behind a front, where the text begins so
abbrev pub behind : List ℕ → List ℕ → Option (List ℕ)
behind front text = if starts_with nat_eq text front then Some (drop (length front) text) else None

-- each is a byte
abbrev pub are_bytes : List ℕ → Bool
are_bytes text = list_all (λ b. nat_lt b 256) text

-- a path of bytes that can be asked for
abbrev pub is_path_of_bytes : List ℕ → Bool
is_path_of_bytes path = are_bytes path && is_path path
