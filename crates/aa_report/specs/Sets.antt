-- Lines as a set.
-- Source: own.
use Rattle.std.specs.Prelude.{◌≡◌, ℕ, List, is_some}
use Rattle.std.specs.HashMap.{HashMap, get_by}
use Rattle.std.specs.Str.{bytes_eq}
use Rattle.std.specs.declared.vec.Vec.{Vec}
use Rattle.aa_report.specs.Accepted.{is_among}

-- the set has a line just where it is one of these
abbrev pub AreIn : {Y S : Type 0} → HashMap (Vec ℕ Y) ℕ S → List (List ℕ) → Type 0
AreIn set lines = (line : List ℕ) → is_some (get_by (λ k. bytes_eq line k.items) set) ≡ is_among lines line
