use Rattle.std.proofs.Common.{◌≡◌, ◌≤◌, List, length, ◌-◌, map}
use Rattle.std.specs.Prelude.{flat_map}
use Rattle.aa_policy.specs.Bodies.{PartData, IsBodyPart, rules_in, children_in, child_data}
use Rattle.aa_rules.specs.Grammar.{Closes}
use Rattle.aa_rules.specs.Reading.{rest_of, rule_data}
use Rattle.aa_rules.proofs.Repetition.{Reaches}
use Rattle.aa_policy.proofs.bodies.body_of.Given as goal

abbrev pub invariant-parts : goal.invariant-parts
invariant-parts l = record {
  found : List PartData;
  reach : Reaches IsBodyPart Closes (rest_of l.words l.start) found (rest_of l.words l.at);
  rules : map rule_data l.body.rules.items ≡ flat_map rules_in found;
  children : map child_data l.body.children.items ≡ flat_map children_in found;
  behind : l.start ≤ l.at;
}

abbrev pub decreases-parts : goal.decreases-parts
decreases-parts l = length l.words - l.at
