-- The names that a text with * stands for.
-- Source: own.
use Rattle.std.specs.Prelude.{ℕ, ◌==◌, ◌&&◌, ◌||◌, List, [], ◌∷◌, map, Bool, true, false, if◌then◌else◌}
use Rattle.std.specs.Option.{option_map_or}
use Rattle.std.specs.Bool.{nat_eq}
use Rattle.std.specs.List.{starts_with}
use Rattle.std.specs.Str.{bytes_eq}
use Rattle.aa_pattern.specs.declared.item.Item.{Item, Byte, Deep}
use Rattle.aa_pattern.specs.Matching.{is_match}
use Rattle.aa_ask.specs.Asked.{name_in_digits}

-- in the text of a name * stands for any bytes, each other byte for itself
abbrev pub name_item : ℕ → Item
name_item b = if b == 42 then Deep else Byte b

-- the name that stands in hexadecimal digits is this one
abbrev pub is_in_digits : List ℕ → List ℕ → Bool
is_in_digits digits name = option_map_or (λ (n : List ℕ). bytes_eq n name) (name_in_digits digits) false

-- a text stands for a full name: with any bytes for each *, or in hexadecimal digits
abbrev pub stands_for : List ℕ → List ℕ → Bool
stands_for text name = is_match (map name_item text) name || is_in_digits text name

-- a text with any bytes for each * may stand for a name that begins so
abbrev pub may_begin : List ℕ → List ℕ → Bool
may_begin [] text = true
may_begin (c ∷ front) [] = false
may_begin (c ∷ front) (b ∷ text) = b == 42 || (b == c && may_begin front text)

-- the name that stands in hexadecimal digits begins so
abbrev pub begins_in_digits : List ℕ → List ℕ → Bool
begins_in_digits digits front = option_map_or (λ (n : List ℕ). starts_with nat_eq n front) (name_in_digits digits) false

-- a text may stand for a full name that begins so
abbrev pub may_stand_for : List ℕ → List ℕ → Bool
may_stand_for text front = may_begin front text || begins_in_digits text front
