-- Places by their paths and bytes.
-- Source: own.
use Rattle.std.specs.Prelude.{◌≡◌, ℕ, List}
use Rattle.std.specs.List.{AllZip}
use Rattle.std.specs.Borrow.{Bor}
use Rattle.aa_files.specs.declared.unit.Unit as unit
use Rattle.aa_redundant.specs.declared.places.RulePlace.{RulePlace}
use Rattle.aa_redundant.specs.Places.{path_at}

-- the path and the byte of a place
pub record IsKeyOf (us : List unit.Unit) (key : Bor (List ℕ) × ℕ) (p : RulePlace) : Type 0 where
  pub path : key.0.now ≡ path_at us p
  pub byte : key.1 ≡ p.at.byte

-- so of each place
abbrev pub AreKeys : List unit.Unit → List (Bor (List ℕ) × ℕ) → List RulePlace → Type 0
AreKeys us keys ps = AllZip (IsKeyOf us) keys ps
