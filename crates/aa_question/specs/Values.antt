-- What JSON values stand for in a question.
-- Source: own; RFC 4648, section 8.
use Rattle.std.specs.Prelude.{ℕ, ◌&&◌, List, [], ◌∷◌, codes, Bool, nat_le, if◌then◌else◌, Option, Some, None, option_map}
use Rattle.std.specs.Option.{option_and_then}
use Rattle.std.specs.List.{list_any}
use Rattle.std.specs.Str.{bytes_eq}
use Rattle.aa_base.specs.Hex.{digits_in}
use Rattle.serde_json.specs.Data.{Data, Items, no_items, item, Members, no_members, member}
use Rattle.serde_json.specs.Find.{get, as_str, as_number, as_u64, as_array, as_object}
use Rattle.aa_question.specs.Memory.{Row}

-- the name is one of these
abbrev pub is_among : List (List ℕ) → List ℕ → Bool
is_among names name = list_any (λ n. bytes_eq name n) names

-- the first member that has none of these names
abbrev pub unknown_in : List (List ℕ) → Members → Option (List ℕ)
unknown_in names no_members = None
unknown_in names (member k d ms) = if is_among names k then unknown_in names ms else Some k

-- a value, where nothing stands that isn't known
abbrev pub if_known : {A : Type 0} → Option (List ℕ) → Option A → Option A
if_known None a = a
if_known (Some unknown) a = None

-- an object that has no other members than those of these names
abbrev pub only : List (List ℕ) → Data → Option Members
only names d = option_and_then (λ ms. if_known (unknown_in names ms) (Some ms)) (as_object d)

-- the values of a list
abbrev pub data_list : Items → List Data
data_list no_items = []
data_list (item d ds) = d ∷ data_list ds

-- the bytes of an object that has their hexadecimal digits alone
abbrev pub hex_in : Data → Option (List ℕ)
hex_in d =
    option_and_then (λ (_ : Members). option_and_then digits_in (option_and_then as_str (get (codes "hex") d))) (only (codes "hex" ∷ []) d)

-- a text, or else such an object
abbrev pub bytes_or : Option (List ℕ) → Data → Option (List ℕ)
bytes_or (Some text) d = Some text
bytes_or None d = hex_in d

-- the bytes that a value stands for
abbrev pub bytes_in : Data → Option (List ℕ)
bytes_in d = bytes_or (as_str d) d

-- a text at a path: an object that has its name and itself alone
abbrev pub row_in : Data → Option Row
row_in d =
    option_and_then (λ (_ : Members). option_and_then (λ name. option_map (λ text. (name, text)) (option_and_then bytes_in (get (codes "text") d))) (option_and_then bytes_in (get (codes "name") d)))
    (only (codes "name" ∷ codes "text" ∷ []) d)

-- all values of a list, if each stands for something
unfoldable pub all_of : {A : Type 0} → (Data → Option A) → List Data → Option (List A)
all_of f [] = Some []
all_of f (d ∷ ds) = option_and_then (λ a. option_map (λ bs. a ∷ bs) (all_of f ds)) (f d)

-- those of a value that is a list
abbrev pub list_in : {A : Type 0} → (Data → Option A) → Data → Option (List A)
list_in f d = option_and_then (all_of f) (option_map data_list (as_array d))

-- a value, or that one where nothing stands
abbrev pub or_else : {A : Type 0} → A → (Data → Option A) → Option Data → Option A
or_else default f None = Some default
or_else default f (Some d) = f d

-- a number of states, from 1 to 1,000,000
abbrev pub states_in : Data → Option ℕ
states_in d = option_and_then (λ n. if nat_le 1 n && nat_le n 1000000 then Some n else None) (option_and_then as_u64 (as_number d))

-- bytes that are there
abbrev pub some_bytes : Data → Option (Option (List ℕ))
some_bytes d = option_map Some (bytes_in d)
