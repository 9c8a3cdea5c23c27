-- A name by itself, for examples.
use Rattle.std.specs.Prelude.{ℕ, List}
use Rattle.aa_words.specs.declared.word.Span.{Span}
use Rattle.aa_words.specs.declared.word.WordKind.TheVariants.{Name}
use Rattle.aa_words.specs.Splits.{WordData}

-- a span of no text
abbrev pub nowhere : Span
nowhere = record { reading = 0; file = 0; start = 0; end = 0 }

-- a name by itself
abbrev pub name : List ℕ → WordData
name text = record { kind = Name; text = text; span = nowhere }
