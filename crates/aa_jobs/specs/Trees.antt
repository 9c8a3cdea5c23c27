-- The JSON value that a tree over borrowed text stands for.
use Rattle.std.specs.Prelude.{ℕ, List, ◌&&◌, Bool, true, Option, Some, None, is_some}
use Rattle.std.specs.Borrow.{Bor}
use Rattle.std.specs.declared.alloc.Global.{Global}
use Rattle.json.specs.Json as json
use Rattle.json.specs.Value.{value_view, members_view}
use Rattle.json.specs.declared.value.Value.{Value}
use Rattle.serde_json.specs.Data.{Num, Data, null, boolean, number, string, array, object, Items, no_items, item, Members, no_members, put}
use Rattle.serde_json.specs.Read.{number_of}

-- a number that is out of range stands for nothing: a text with one isn't read
abbrev pub number_data : Option Num → Data
number_data None = null
number_data (Some n) = number n

-- a key that comes twice counts with its last value
abbrev mutual
  pub data_of : json.Json → Data
  data_of json.null = null
  data_of (json.boolean b) = boolean b
  data_of (json.number s) = number_data (number_of s)
  data_of (json.string s) = string s
  data_of (json.array js) = array (items_data js)
  data_of (json.object ms) = object (members_data ms no_members)

  pub items_data : json.Items → Items
  items_data json.no_items = no_items
  items_data (json.item j js) = item (data_of j) (items_data js)

  pub members_data : json.Members → Members → Members
  members_data json.no_members found = found
  members_data (json.member k j ms) found = members_data ms (put k (data_of j) found)

-- each number is in range
abbrev mutual
  pub in_range : json.Json → Bool
  in_range json.null = true
  in_range (json.boolean b) = true
  in_range (json.number s) = is_some (number_of s)
  in_range (json.string s) = true
  in_range (json.array js) = items_in_range js
  in_range (json.object ms) = members_in_range ms

  pub items_in_range : json.Items → Bool
  items_in_range json.no_items = true
  items_in_range (json.item j js) = in_range j && items_in_range js

  pub members_in_range : json.Members → Bool
  members_in_range json.no_members = true
  members_in_range (json.member k j ms) = in_range j && members_in_range ms

-- what the code's tree stands for
abbrev pub tree_data : Value Global → Data
tree_data v = data_of (value_view v)

-- what an object's members stand for, as they come in the text
abbrev pub object_data : List (Bor (List ℕ) × Value Global) → Members
object_data ms = members_data (members_view ms) no_members

-- a key's bytes, and what its value stands for
abbrev pub entry_data : Bor (List ℕ) × Bor (Value Global) → List ℕ × Data
entry_data e = (e.0.now, tree_data e.1.now)
