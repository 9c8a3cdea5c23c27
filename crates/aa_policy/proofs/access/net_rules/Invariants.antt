use Rattle.std.proofs.Common.{◌≡◌, ◌++◌, drop, map}
use Rattle.std.specs.Prelude.{flat_map}
use Rattle.aa_rules.specs.Reading.{rule_data}
use Rattle.aa_policy.specs.Spelling.{net_rules_of}
use Rattle.aa_policy.proofs.access.net_rules.Given as goal

abbrev pub invariant-loop-rule : goal.invariant-loop-rule
invariant-loop-rule l = l.found.items ++ flat_map net_rules_of (map rule_data (drop l.rule-index l.rules)) ≡ flat_map net_rules_of (map rule_data l.rules)
