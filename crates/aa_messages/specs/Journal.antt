-- The message of a line that the journal prints as JSON.
-- Source: the Journal JSON Format, as systemd has it; systemd.journal-fields(7), "MESSAGE"; own.
use Rattle.std.specs.Prelude.{ℕ, ◌==◌, nat_lt, List, [], ◌∷◌, codes, Bool, false, if◌then◌else◌, Option, Some, None, option_map, option_and_then, unwrap_or}
use Rattle.std.specs.Option.{option_or}
use Rattle.std.specs.Str.{is_utf8}
use Rattle.serde_json.specs.Data.{Data, Items, no_items, item}
use Rattle.serde_json.specs.Find.{get, as_str, as_array, as_number, as_u64}
use Rattle.serde_json.specs.Read.{read}

-- a line begins as an object does
abbrev pub begins_object : List ℕ → Bool
begins_object [] = false
begins_object (b ∷ bs) = b == 123

-- a number as the byte that it is, where it is one
abbrev pub as_byte : ℕ → Option ℕ
as_byte n = if nat_lt n 256 then Some n else None

-- the byte that a value is, where it is one
abbrev pub byte_in : Data → Option ℕ
byte_in d = option_and_then as_byte (option_and_then as_u64 (as_number d))

-- a byte before others, where all are there
abbrev pub put_before : Option ℕ → Option (List ℕ) → Option (List ℕ)
put_before None bytes = None
put_before (Some b) bytes = option_map (λ bs. b ∷ bs) bytes

-- the bytes that values are, where each is one
unfoldable pub bytes_of : Items → Option (List ℕ)
bytes_of no_items = Some []
bytes_of (item d ds) = put_before (byte_in d) (bytes_of ds)

-- a text, or the bytes of one that isn't UTF-8
abbrev pub text_in : Data → Option (List ℕ)
text_in d = option_or (as_str d) (option_and_then bytes_of (as_array d))

-- the message of an object, where it is a text or the bytes of one
abbrev pub message_of : Data → Option (List ℕ)
message_of d = option_and_then text_in (get (codes "MESSAGE") d)

-- the message of the object that a line is, where it is one
unfoldable pub json_message : List ℕ → Option (List ℕ)
json_message line = if is_utf8 line then option_and_then message_of (read line) else None

-- the message that a line is: that of an object which has one, else the line itself
unfoldable pub message_in : List ℕ → List ℕ
message_in line = if begins_object line then unwrap_or (json_message line) line else line
