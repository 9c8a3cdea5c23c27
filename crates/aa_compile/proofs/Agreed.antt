-- The number that all of a list are.
use Rattle.std.proofs.Common.{ℕ, List, Option, Some, None}
use Rattle.std.specs.Prelude.{◌==◌, if◌then◌else◌}
use Rattle.std.specs.List.{list_all}
use Rattle.aa_compile.specs.Attached.{common}

-- what was found and the rest are one number
abbrev pub agree : Option ℕ → List ℕ → Option ℕ
agree None ns = common ns
agree (Some n) ns = if list_all (λ k. k == n) ns then Some n else None
