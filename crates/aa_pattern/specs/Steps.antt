-- One byte of a part that an item allows.
use Rattle.std.specs.Prelude.{◌≡◌, ℕ}
use Rattle.aa_pattern.specs.declared.item.Item.{Item, Byte, One, Run, RunOne, Deep, DeepOne, Class, Choice'}
use Rattle.aa_pattern.specs.Globs.{IsNonzeroByte, IsNameByte, IsListed}

-- a part may begin with the byte
abbrev pub Begins : Item → ℕ → Type 0
Begins (Byte c) b = (b ≡ c) × IsNonzeroByte b
Begins One b = IsNameByte b
Begins Run b = IsNameByte b
Begins RunOne b = IsNameByte b
Begins Deep b = IsNonzeroByte b
Begins DeepOne b = IsNameByte b
Begins (Class set) b = IsListed set b
Begins (Choice' _ _) b = ⊥

-- a part may go on with the byte
abbrev pub Continues : Item → ℕ → Type 0
Continues Run b = IsNameByte b
Continues RunOne b = IsNameByte b
Continues Deep b = IsNonzeroByte b
Continues DeepOne b = IsNonzeroByte b
Continues _ b = ⊥

-- a part may be empty
abbrev pub IsSkippable : Item → Type 0
IsSkippable Run = Unit {0}
IsSkippable Deep = Unit {0}
IsSkippable _ = ⊥

-- an item but a choice
abbrev pub IsSimple : Item → Type 0
IsSimple (Choice' _ _) = ⊥
IsSimple _ = Unit {0}

-- an item whose parts have one byte
abbrev pub IsOneByte : Item → Type 0
IsOneByte (Byte c) = Unit {0}
IsOneByte One = Unit {0}
IsOneByte (Class set) = Unit {0}
IsOneByte _ = ⊥
