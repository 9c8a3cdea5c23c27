-- Profiles by their names.
use Rattle.std.specs.Prelude.{ℕ, ◌≡◌, List, length, if◌then◌else◌, Option, Some, None, Vec}
use Rattle.std.specs.Global.{Global}
use Rattle.std.specs.List.{IsDistinct}
use Rattle.std.specs.Map.{lookup}
use Rattle.std.specs.Ordering.{is_eq, nat_cmp}
use Rattle.std.specs.Cmp.Lexicographic.{slice_cmp}
use Rattle.std.specs.Str.{bytes_eq}
use Rattle.aa_model.specs.declared.policy.Profile.{Profile}
use Rattle.aa_model.specs.Lawful.{names_of}
use Rattle.aa_load.specs.Faults.{number_of, repeated}

-- numbers that are noted for names
abbrev pub Noted : Type 0
Noted = List (Vec ℕ Global × ℕ)

-- the number that is noted for a name
abbrev pub noted : List ℕ → Noted → Option ℕ
noted name numbers = lookup (λ k. is_eq (slice_cmp nat_cmp name k.items)) numbers

-- for each name the number of the first profile that is called so is noted, and else nothing
abbrev pub AreNumbers : Noted → List Profile → Type 0
AreNumbers numbers profiles = (name : List ℕ) → noted name numbers ≡ number_of name profiles

-- a number is noted for that name, and for each other what was
abbrev pub NotesNumber : List ℕ → ℕ → Noted → Noted → Type 0
NotesNumber name number before after = (other : List ℕ) → noted other after ≡ (if bytes_eq name other then Some number else noted other before)

-- the numbers are those of so many earlier profiles, and the later ones have names that none of those has, each its own
pub record AreNew (numbers : Noted) (count : ℕ) (earlier later : List Profile) : Type 0 where
  pub numbered : AreNumbers numbers earlier
  pub counted : length earlier ≡ count
  pub unknown : repeated earlier later ≡ None
  pub distinct : IsDistinct bytes_eq (names_of later)
