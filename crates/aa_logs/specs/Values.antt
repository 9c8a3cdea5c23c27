-- What the value of a field stands for.
-- Source: as the kernel writes names.
use Rattle.std.specs.Prelude.{ℕ, ◌&&◌, List, Bool, true, false, if◌then◌else◌}
use Rattle.aa_base.specs.Hex.{bytes_of_hex, is_hex}
use Rattle.aa_logs.specs.Words.{WordData}
use Rattle.aa_logs.specs.declared.word.Form.{Form}
use Rattle.aa_logs.specs.declared.word.Form.TheVariants.{Quoted, Open, Plain, Run}

-- the value is a run
abbrev pub is_plain : Form → Bool
is_plain Plain = true
is_plain Quoted = false
is_plain Open = false
is_plain Run = false

-- a name that stands without quotes in hexadecimal digits is the bytes that they are; another is its text
abbrev pub name_in : WordData → List ℕ
name_in w = if is_plain w.form && is_hex w.text then bytes_of_hex w.text else w.text
