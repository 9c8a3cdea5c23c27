-- Names that no profile has.
-- Source: own.
use Rattle.std.specs.Prelude.{ℕ, List, [], ◌∷◌, ◌||◌, not, Bool, true, false, Option, Some, None, is_some, codes, if◌then◌else◌}
use Rattle.std.specs.Option.{option_map_or}
use Rattle.std.specs.Str.{bytes_eq}
use Rattle.aa_compile.specs.FileRules.{is_nil}
use Rattle.aa_ask.specs.Asked.{name_in_digits}
use Rattle.aa_passed_over.specs.Apart.{number_named}
use Rattle.aa_diff.specs.declared.part.Part.{Part}
use Rattle.aa_diff.specs.Untold.{files_holding}

-- a profile of a side has that name, or one of a skipped file may
abbrev pub is_on_side : Part → List ℕ → Bool
is_on_side d name = is_some (number_named d.decided.policies.now name) || not (is_nil (files_holding d name))

-- somebody is called so on one of the sides
abbrev pub is_called : Part → Part → List ℕ → Bool
is_called d e name = bytes_eq name (codes "unconfined") || (is_on_side d name || is_on_side e name)

-- so, or by the name that stands so in hexadecimal digits
abbrev pub is_named_so : Part → Part → List ℕ → Bool
is_named_so d e name = is_called d e name || option_map_or (is_called d e) (name_in_digits name) false

-- the first of some names by which nobody is called
abbrev pub unnamed : Part → Part → List (List ℕ) → Option (List ℕ)
unnamed d e [] = None
unnamed d e (n ∷ ns) = if is_named_so d e n then unnamed d e ns else Some n
