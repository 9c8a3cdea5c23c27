-- Texts as JSON has them.
-- Source: JSON; own.
use Rattle.std.specs.Prelude.{ℕ, List, [], ◌∷◌, ◌++◌, flat_map, codes, decimal, Bool, if◌then◌else◌, Option, Some, None}
use Rattle.std.specs.Str.{is_utf8}
use Rattle.serde_json.specs.Data.{string}
use Rattle.serde_json.specs.Written.{compact_text}
use Rattle.aa_base.specs.Hex.{small_pair}
use Rattle.aa_text.specs.declared.position.PlaceAt.{PlaceAt}

-- a text between quotes, with what JSON wants to be escaped
unfoldable pub json_text : List ℕ → List ℕ
json_text text = compact_text (string text)

-- bytes in an object, as their hexadecimal digits
unfoldable pub in_digits : List ℕ → List ℕ
in_digits bytes = codes "{\"hex\":\"" ++ flat_map small_pair bytes ++ codes "\"}"

-- bytes as a JSON text, or where they are no UTF-8, as an object with their hexadecimal digits
unfoldable pub json_bytes : List ℕ → List ℕ
json_bytes bytes = if is_utf8 bytes then json_text bytes else in_digits bytes

-- a member's key with its colon
unfoldable pub key_text : List ℕ → List ℕ
key_text key = codes "\"" ++ key ++ codes "\":"

-- a truth value as JSON
abbrev pub bool_text : Bool → List ℕ
bool_text b = if b then codes "true" else codes "false"

-- behind a comma, a member
unfoldable pub member_text : List ℕ → List ℕ → List ℕ
member_text key value = codes "," ++ key_text key ++ value

-- the same of a value that may be none
abbrev pub member_if : List ℕ → Option (List ℕ) → List ℕ
member_if key None = []
member_if key (Some value) = member_text key value

-- each text behind a comma
abbrev pub behind_commas : List (List ℕ) → List ℕ
behind_commas texts = flat_map (λ text. codes "," ++ text) texts

-- texts with a comma between two of them
abbrev pub with_commas : List (List ℕ) → List ℕ
with_commas [] = []
with_commas (text ∷ texts) = text ++ behind_commas texts

-- a comma, where a text stands before
abbrev pub comma_if : Bool → List ℕ
comma_if later = if later then codes "," else []

-- what is still to be written of a list, where a text of it stands before or none
abbrev pub more_of : Bool → List (List ℕ) → List ℕ
more_of later texts = if later then behind_commas texts else with_commas texts

-- a list
unfoldable pub list_text : List (List ℕ) → List ℕ
list_text texts = codes "[" ++ with_commas texts ++ codes "]"

-- line and column, as members
abbrev pub line_members : Option PlaceAt → List ℕ
line_members None = []
line_members (Some p) = member_text (codes "line") (decimal p.line) ++ member_text (codes "column") (decimal p.column)

-- the members of a path and of a place in it
unfoldable pub json_place : List ℕ → Option PlaceAt → List ℕ
json_place path place = key_text (codes "path") ++ json_bytes path ++ line_members place
