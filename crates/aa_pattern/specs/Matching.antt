-- Deciding whether a text is matched.
use Rattle.std.specs.Prelude.{ℕ, ◌==◌, ◌&&◌, ◌||◌, nat_lt, not, Bool, true, false, List, [], ◌∷◌, map, slice_index_or}
use Rattle.std.specs.List.{list_all, list_any}
use Rattle.aa_pattern.specs.declared.item.Item.{Item, Byte, One, Run, RunOne, Deep, DeepOne, Class, Choice', Row_of-Item, end_of-Item, more_of-Item, Row_of-Item-Choice-0-1, end_of-Item-Choice-0-1, more_of-Item-Choice-0-1}

-- each way to cut a text in two
abbrev pub cuts : List ℕ → List (List ℕ × List ℕ)
cuts [] = ([], []) ∷ []
cuts (b ∷ bs) = ([], b ∷ bs) ∷ map (λ c. (b ∷ c.0, c.1)) (cuts bs)

-- a byte but zero
abbrev pub is_nonzero_byte : ℕ → Bool
is_nonzero_byte b = nat_lt 0 b && nat_lt b 256

-- a byte but zero and /
abbrev pub is_name_byte : ℕ → Bool
is_name_byte b = is_nonzero_byte b && not (b == 47)

-- nothing stands there
abbrev pub is_empty : List ℕ → Bool
is_empty [] = true
is_empty (b ∷ bs) = false

-- the text is one byte that passes the test
abbrev pub is_one : (ℕ → Bool) → List ℕ → Bool
is_one test [] = false
is_one test (b ∷ bs) = test b && is_empty bs

-- the first byte passes one test, and each later one another
abbrev pub begins_so : (ℕ → Bool) → (ℕ → Bool) → List ℕ → Bool
begins_so first later [] = false
begins_so first later (b ∷ bs) = first b && list_all later bs

abbrev mutual
  -- whether an item allows the text
  pub allows : Item → List ℕ → Bool
  allows (Byte c) s = is_one (λ b. b == c && is_nonzero_byte c) s
  allows One s = is_one is_name_byte s
  allows Run s = list_all is_name_byte s
  allows RunOne s = begins_so is_name_byte is_name_byte s
  allows Deep s = list_all is_nonzero_byte s
  allows DeepOne s = begins_so is_name_byte is_nonzero_byte s
  allows (Class set) s = is_one (λ b. is_nonzero_byte b && slice_index_or set b false) s
  allows (Choice' _ branches) s = some_allows branches s

  -- whether a branch of a choice does
  pub some_allows : {n : _} → Row_of-Item-Choice-0-1 n → List ℕ → Bool
  some_allows end_of-Item-Choice-0-1 s = false
  some_allows (more_of-Item-Choice-0-1 _ branch rest) s = all_allow branch s || some_allows rest s

  -- `is_match`, of a branch
  pub all_allow : {n : _} → Row_of-Item n → List ℕ → Bool
  all_allow end_of-Item s = is_empty s
  all_allow (more_of-Item item rest) s = list_any (λ c. allows item c.0 && all_allow rest c.1) (cuts s)

-- whether the text is cut into as many parts as there are items, each allowed by its item
unfoldable pub is_match : List Item → List ℕ → Bool
is_match [] s = is_empty s
is_match (item ∷ items) s = list_any (λ c. allows item c.0 && is_match items c.1) (cuts s)
