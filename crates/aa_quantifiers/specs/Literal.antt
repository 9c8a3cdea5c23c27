-- The path of a pattern without a wildcard.
-- Source: own.
use Rattle.std.specs.Prelude.{ℕ, Option, Some, None}
use Rattle.aa_pattern.specs.declared.item.Item.{Item, Byte}

-- the byte that an item is
abbrev pub byte_in : Item → Option ℕ
byte_in (Byte b) = Some b
byte_in _ = None
