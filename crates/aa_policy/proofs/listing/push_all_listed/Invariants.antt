use Rattle.std.proofs.Common.{◌≡◌, ◌++◌, drop, map}
use Rattle.std.specs.Prelude.{flat_map}
use Rattle.aa_rules.specs.Reading.{rule_data}
use Rattle.aa_policy.specs.Spelling.{listed_at}
use Rattle.aa_policy.proofs.listing.push_all_listed.Given as goal

abbrev pub invariant-loop-rule : goal.invariant-loop-rule
invariant-loop-rule l = l.found.items ++ flat_map (listed_at l.number) (map rule_data (drop l.rule-index l.rules)) ≡ l.fn.found.items ++ flat_map (listed_at l.number) (map rule_data l.rules)
