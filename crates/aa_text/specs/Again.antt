-- What is written as JSON is read as that value.
use Rattle.std.specs.Prelude.{◌≡◌, ◌<◌, ◌≤◌, ◌^◌, ◌++◌, ℕ, List, codes, true, ⊤, Some}
use Rattle.std.specs.Str.{is_utf8, IsUtf8}
use Rattle.serde_json.specs.Data.{unsigned, negative, float, Data, null, boolean, number, string, array, object, Items, no_items, item, Members, no_members, member, put, depth}
use Rattle.serde_json.specs.Read.{read, max_depth}
use Rattle.serde_json.specs.Written.{compact_text}

-- texts are UTF-8, and numbers are of 64 bits without a sign
abbrev mutual
  pub IsPlain : Data → Type 0
  IsPlain null = ⊤
  IsPlain (boolean b) = ⊤
  IsPlain (number (unsigned n)) = n < 2 ^ 64
  IsPlain (number (negative z)) = ⊥
  IsPlain (number (float x)) = ⊥
  IsPlain (string s) = IsUtf8 s
  IsPlain (array ds) = ArePlain ds
  IsPlain (object ms) = HasPlain ms

  pub ArePlain : Items → Type 0
  ArePlain no_items = ⊤
  ArePlain (item d ds) = IsPlain d × ArePlain ds

  pub HasPlain : Members → Type 0
  HasPlain no_members = ⊤
  HasPlain (member k d ms) = IsUtf8 k × IsPlain d × HasPlain ms

-- the value with each object's members in the order of their keys' bytes, of two of one key the later
abbrev mutual
  pub settled : Data → Data
  settled null = null
  settled (boolean b) = boolean b
  settled (number n) = number n
  settled (string s) = string s
  settled (array ds) = array (settled_items ds)
  settled (object ms) = object (settled_members ms no_members)

  pub settled_items : Items → Items
  settled_items no_items = no_items
  settled_items (item d ds) = item (settled d) (settled_items ds)

  pub settled_members : Members → Members → Members
  settled_members no_members found = found
  settled_members (member k d ms) found = settled_members ms (put k (settled d) found)

-- bytes are UTF-8 and the JSON text of that value
abbrev pub IsTextOf : List ℕ → Data → Type 0
IsTextOf bytes d = (is_utf8 bytes ≡ true) × (read bytes ≡ Some d)

-- a text that is UTF-8, written as JSON, is read as that text
abbrev pub TextsAreRead : Type 0
TextsAreRead = (text : List ℕ) → is_utf8 text ≡ true → IsTextOf (compact_text (string text)) (string text)

-- a value that isn't nested too deeply, written with a line end, is read as that value
abbrev pub ValuesAreRead : Type 0
ValuesAreRead = (d : Data) → IsPlain d → depth d ≤ max_depth → IsTextOf (compact_text d ++ codes "\n") (settled d)
