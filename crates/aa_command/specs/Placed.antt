-- The texts of a unit whose places are kept.
-- Source: own.
use Rattle.std.specs.Prelude.{◌≡◌, ℕ, ◌<◌, List, length, Some, slice_get}
use Rattle.aa_files.specs.declared.unit.Unit as unit
use Rattle.aa_files.specs.Numbers.{text_in}

-- each is that of its number
abbrev pub AreItsTexts : unit.Unit → List (List ℕ) → Type 0
AreItsTexts u placed = (n : ℕ) → n < length placed → slice_get placed n ≡ Some (text_in u n)
