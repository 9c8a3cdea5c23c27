use Rattle.std.proofs.Common.{◌≡◌, ◌≤◌, List, Option, length, ◌-◌, map}
use Rattle.std.specs.Prelude.{flat_map}
use Rattle.aa_policy.specs.Bodies.{IsStatement, if_any}
use Rattle.aa_rules.specs.Grammar.{Closes}
use Rattle.aa_rules.specs.Reading.{RuleData, rest_of, rule_data}
use Rattle.aa_rules.proofs.Repetition.{Reaches}
use Rattle.aa_policy.proofs.bodies.child_body_of.Given as goal

abbrev pub invariant-statements : goal.invariant-statements
invariant-statements l = record {
  found : List (Option RuleData);
  reach : Reaches IsStatement Closes (rest_of l.words l.start) found (rest_of l.words l.at);
  rules : map rule_data l.rules.items ≡ flat_map if_any found;
  behind : l.start ≤ l.at;
}

abbrev pub decreases-statements : goal.decreases-statements
decreases-statements l = length l.words - l.at
