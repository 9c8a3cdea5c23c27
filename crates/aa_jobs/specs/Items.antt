-- The members of an item, by their keys, and what an item looks at in their values.
-- Source: own.
use Rattle.std.specs.Prelude.{◌≡◌, ℕ, List, [], ◌∷◌, codes, Bool, true, false, Option, Some, None, option_and_then, option_map}
use Rattle.std.specs.Prelude.{if◌then◌else◌}
use Rattle.std.specs.Str.{bytes_eq}
use Rattle.serde_json.specs.Data.{Data, null, boolean, string, Members, no_members, put}
use Rattle.serde_json.specs.Find.{as_bool, as_number, as_str, as_u64, get_member}
use Rattle.serde_json.specs.Read.{number_of}
use Rattle.aa_jobs.specs.declared.keyed.ItemKey.{ItemKey}
use Rattle.aa_jobs.specs.declared.keyed.ItemKey.TheVariants as key
use Rattle.aa_jobs.specs.declared.keyed.ItemValue.{ItemValue}
use Rattle.aa_jobs.specs.declared.keyed.ItemValue.TheVariants as value
use Rattle.aa_jobs.specs.declared.shape.Part.{Part}
use Rattle.aa_jobs.specs.declared.shape.Part.TheVariants.{Whole, OfTask, OfFile, OfLink, OfExec, OfCap, OfNet, OfChange, OfReload}
use Rattle.aa_jobs.specs.Shape.{has_only}
use Rattle.aa_jobs.specs.Trees.{number_data}

-- the name of a key
abbrev pub key_name : ItemKey → List ℕ
key_name key.File = codes "file"
key_name key.Mask = codes "mask"
key_name key.Owned = codes "owned"
key_name key.Exec = codes "exec"
key_name key.Link = codes "link"
key_name key.To = codes "to"
key_name key.Cap = codes "cap"
key_name key.Net = codes "net"
key_name key.Type = codes "type"
key_name key.Change = codes "change"
key_name key.Reload = codes "reload"

-- the key of a name
abbrev pub key_of : List ℕ → Option ItemKey
key_of name =
    if bytes_eq name (codes "file") then Some key.File
    else (if bytes_eq name (codes "mask") then Some key.Mask
    else (if bytes_eq name (codes "owned") then Some key.Owned
    else (if bytes_eq name (codes "exec") then Some key.Exec
    else (if bytes_eq name (codes "link") then Some key.Link
    else (if bytes_eq name (codes "to") then Some key.To
    else (if bytes_eq name (codes "cap") then Some key.Cap
    else (if bytes_eq name (codes "net") then Some key.Net
    else (if bytes_eq name (codes "type") then Some key.Type
    else (if bytes_eq name (codes "change") then Some key.Change
    else (if bytes_eq name (codes "reload") then Some key.Reload
    else None))))))))))

-- what the value of a key stands for; null stands for what is no text, no number and neither true nor false
abbrev pub value_data : ItemValue → Data
value_data (value.Text s) = string s.now
value_data (value.Flag b) = boolean b
value_data (value.Number s) = number_data (number_of s.now)
value_data value.Other = null

-- the members of an object: of those of one key the last counts
abbrev pub item_data : List (ItemKey × ItemValue) → Members → Members
item_data [] found = found
item_data (m ∷ ms) found = item_data ms (put (key_name m.0) (value_data m.1) found)

-- the same, from the first on
abbrev pub item_object : List (ItemKey × ItemValue) → Members
item_object ms = item_data ms no_members

-- what an item looks at in a value: a text, true or false, or a number of 64 bits without a sign
pub record Look : Type 0 where
  pub text : Option (List ℕ)
  pub flag : Option Bool
  pub number : Option ℕ

-- what an item looks at in this value
abbrev pub look : Data → Look
look d = record { text = as_str d; flag = as_bool d; number = option_and_then as_u64 (as_number d) }

-- an item's members look alike, also to a test of their keys
abbrev pub LookAlike : Members → Members → Type 0
LookAlike one other =
    ((k : List ℕ) → option_map look (get_member k one) ≡ option_map look (get_member k other)) × ((part : Part) → has_only part one ≡ has_only part other)

-- the parts of a job that are items
abbrev pub is_of_item : Part → Bool
is_of_item Whole = false
is_of_item OfTask = false
is_of_item OfFile = true
is_of_item OfLink = true
is_of_item OfExec = true
is_of_item OfCap = true
is_of_item OfNet = true
is_of_item OfChange = true
is_of_item OfReload = true

-- no item has all of these keys
abbrev pub AreStrange : Members → Type 0
AreStrange ms = (part : Part) → is_of_item part ≡ true → has_only part ms ≡ false

-- what is kept of members whose keys are all known looks as they do; of others nothing is asked but that no item has them
abbrev pub Looked : Bool → Members → Members → Type 0
Looked true kept ms = LookAlike kept ms
Looked false kept ms = AreStrange ms
