-- The rows at which rules apply.
-- Source: own.
use Rattle.std.specs.Prelude.{◌≡◌, ℕ, List, length, Bool, false, Some}
use Rattle.std.specs.List.{slice_get}
use Rattle.std.specs.Option.{option_map_or}
use Rattle.aa_model.specs.declared.rule.FileRule.{FileRule}
use Rattle.aa_findings.specs.declared.rows.Row.{Row}
use Rattle.aa_findings.specs.Files.{applies_at}
use Rattle.aa_findings.specs.Places.{places, list_at}

-- the rule with that number is about what the task's user owns alone
abbrev pub is_owners : List FileRule → ℕ → Bool
is_owners rules n = option_map_or (λ (r : FileRule). r.owner) (slice_get rules n) false

-- of each rule the places of the rows at which it applies
pub record AreApplied (rules : List FileRule) (rows : List Row) (index : List (List ℕ)) : Type 0 where
  pub many : length index ≡ length rules
  pub each : (n : ℕ) (r : FileRule) → slice_get rules n ≡ Some r → list_at index n ≡ places (applies_at r) rows
