-- How the parts of a word are written.
-- Source: own.
use Rattle.std.specs.Prelude.{ℕ, ◌&&◌, nat_le, List, [], Bool, not, if◌then◌else◌, codes, flat_map, is_some}
use Rattle.std.specs.List.{list_all}
use Rattle.aa_base.specs.Hex.{hex_pair}
use Rattle.aa_notation.specs.Parts.{place_of}

-- a byte that is seen: ! to ~
abbrev pub is_visible : ℕ → Bool
is_visible b = nat_le 33 b && nat_le b 126

-- an arrow stands in the text
abbrev pub has_arrow : List ℕ → Bool
has_arrow text = is_some (place_of (codes "->") text)

-- a path as it is where all its bytes are seen, and no arrow in it would end it; else in hexadecimal digits
abbrev pub path_text : Bool → List ℕ → List ℕ
path_text ends_at_arrow path = if list_all is_visible path && not (ends_at_arrow && has_arrow path) then path else flat_map hex_pair path

-- before the word of an object that is the task's user's
abbrev pub owned_text : Bool → List ℕ
owned_text owned = if owned then codes "owned:" else []
