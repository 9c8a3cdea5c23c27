-- The places by which findings stand: those of the first rules that account for them.
-- Source: own.
use Rattle.std.specs.Prelude.{ℕ, Option, length, ◌==◌, if◌then◌else◌}
use Rattle.std.specs.List.{slice_get}
use Rattle.std.specs.Option.{option_or, option_cmp}
use Rattle.std.specs.declared.cmp.Ordering.{Ordering}
use Rattle.std.specs.Ordering.{ordering_then, nat_cmp}
use Rattle.aa_diff.specs.declared.rules.Rule.{Rule}
use Rattle.aa_diff.specs.declared.finding.Finding.{Finding}
use Rattle.aa_diff.specs.Rules.{rule_cmp}

-- the rule that a finding stands by: the first of the new policy, or else the first of the old one
abbrev pub first_rule : Finding → Option Rule
first_rule f = option_or (slice_get f.new_rules 0) (slice_get f.old_rules 0)

-- where that rule is: in the new policy, in the old one, or in none
abbrev pub side_number : Finding → ℕ
side_number f = if length f.new_rules == 0 then (if length f.old_rules == 0 then 2 else 1) else 0

-- findings by rules of the new policy go first, then those by rules of the old one, then those without a rule; of one policy they go by that rule
abbrev pub place_cmp : Finding → Finding → Ordering
place_cmp f g = ordering_then (nat_cmp (side_number f) (side_number g)) (option_cmp rule_cmp (first_rule f) (first_rule g))
