-- The units of the files at some paths.
-- Source: own.
use Rattle.std.specs.Prelude.{ℕ, ◌≡◌, List, ◌∷◌, ◌++◌}
use Rattle.std.specs.List.{AllZip}
use Rattle.aa_files.specs.declared.unit.Unit as unit
use Rattle.aa_files.specs.declared.unit.UnitFault.{UnitFault}
use Rattle.aa_files.specs.UnitFaults.{IsLoadFault}
use Rattle.aa_command.specs.Setting.{Setting, IsLoaded}

-- a unit for each path, in order
abbrev pub AreLoaded : Setting → List (List ℕ) → List unit.Unit → Type 0
AreLoaded s paths us = AllZip (IsLoaded s) paths us

-- of these paths, the first at which no unit can be read, and why
pub record IsFirstUnread (s : Setting) (paths : List (List ℕ)) (e : UnitFault) : Type 0 where
  pub before : List (List ℕ)
  pub path : List ℕ
  pub behind : List (List ℕ)
  pub are : paths ≡ before ++ path ∷ behind
  pub units : List unit.Unit
  pub loaded : AreLoaded s before units
  pub unread : IsLoadFault s.files s.input s.folders path e
