-- A tree of which one look-up fails.
-- Source: own.
use Rattle.std.specs.Prelude.{Option, Some, None}
use Rattle.aa_base.specs.declared.unread.Unread.{Unread}
use Rattle.aa_base.specs.declared.unread.Unread.TheVariants.{NoMemory}

-- Where a look-up fails for want of memory, all is known that is known of the tree behind it. Where it fails otherwise nothing is
-- known, since of a tree that is known it can be told where folders lie.
abbrev pub known_by : {A : Type 0} → Unread → A → Option A
known_by NoMemory known = Some known
known_by _ known = None
