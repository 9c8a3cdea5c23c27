-- Items of a list, each once, with how often it stands there.
-- Source: own.
use Rattle.std.specs.Prelude.{ℕ, ◌-◌, ◌^◌, min, List, [], ◌∷◌, map, count_by, not}
use Rattle.std.specs.List.{filter}
use Rattle.std.specs.Str.{bytes_eq}

-- the greatest number of 64 bits, which no count passes
abbrev pub greatest : ℕ
greatest = 2 ^ 64 - 1

-- of the items that have one key the first, in the order of these
unfoldable pub firsts : {A : Type 0} → (A → List ℕ) → List A → List A
firsts key [] = []
firsts key (a ∷ xs) = a ∷ filter (λ b. not (bytes_eq (key a) (key b))) (firsts key xs)

-- how many items have that key
abbrev pub times : {A : Type 0} → (A → List ℕ) → List ℕ → List A → ℕ
times key k xs = min (count_by (λ a. bytes_eq k (key a)) xs) greatest

-- an item, and how many have its key
pub record Counted (A : Type 0) : Type 0 where
  pub item : A
  pub count : ℕ

-- the first item of each key, in order, with how many have that key
abbrev pub counted : {A : Type 0} → (A → List ℕ) → List A → List (Counted A)
counted key xs = map (λ a. record { item = a; count = times key (key a) xs }) (firsts key xs)
