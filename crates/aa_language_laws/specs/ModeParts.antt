-- Modes, as the letters and the exec part that they are written with.
-- Source: apparmor.d(5), "Access Modes".
use Rattle.std.specs.Prelude.{ℕ, ◌≡◌, ◌⊎◌, Bool, true, false, List, [], ◌++◌, map, bit_or, unwrap_or, codes, Some, None}
use Rattle.std.specs.List.{list_all, fold}
use Rattle.aa_rules.specs.declared.modes.ExecMode.{ExecMode}
use Rattle.aa_rules.specs.declared.modes.Mode.{Mode}
use Rattle.aa_rules.specs.Modes.{letter_bits, is_access_letter, writes_and_appends, exec_of, mode}

-- the letters grant access, all of them
abbrev pub AreAccess : List ℕ → Type 0
AreAccess letters = list_all is_access_letter letters ≡ true

-- what letters grant together
abbrev pub granted : List ℕ → ℕ
granted letters = fold bit_or 0 (map (λ c. unwrap_or (letter_bits c) 0) letters)

-- what an exec part adds to what letters grant: under deny it is x and doesn't say how; else it is one of the table
abbrev pub Adds : Bool → List ℕ → ℕ → Mode → Type 0
Adds true part bits m = (part ≡ codes "x") × (m ≡ mode (bit_or bits 64) None)
Adds false part bits m = (how : ExecMode) × (exec_of part ≡ Some how) × (m ≡ mode (bit_or bits 64) (Some how))

-- A mode is access letters, an exec part or none, and access letters, where w doesn't stand beside a.
pub record IsModeOf (deny : Bool) (text : List ℕ) (m : Mode) : Type 0 where
  pub front : List ℕ
  pub part : List ℕ
  pub back : List ℕ
  pub whole : text ≡ front ++ (part ++ back)
  pub front_is : AreAccess front
  pub back_is : AreAccess back
  pub apart : writes_and_appends text ≡ false
  pub says : ((part ≡ []) × (m ≡ mode (granted (front ++ back)) None)) ⊎ Adds deny part (granted (front ++ back)) m
