use Rattle.std.proofs.Common.{◌≡◌, ◌≤◌, List, Option, length, ◌-◌}
use Rattle.std.specs.Prelude.{flat_map}
use Rattle.aa_policy.specs.Bodies.{IsStatement, if_any}
use Rattle.aa_rules.specs.Grammar.{Closes}
use Rattle.aa_rules.specs.Reading.{RuleData, rest_of}
use Rattle.aa_rules.proofs.Repetition.{Reaches}
use Rattle.aa_explain.specs.Places.{PlacedRule, IsPlacedStatement, with_rules, places_data}
use Rattle.aa_explain.proofs.Placing.{Goes}
use Rattle.aa_explain.proofs.places.push_child_body.Given as goal

abbrev pub invariant-statements : goal.invariant-statements
invariant-statements l = record {
  found : List (Option PlacedRule);
  read : List (Option RuleData);
  reach : Reaches IsStatement Closes (rest_of l.words l.start) read (rest_of l.words l.at);
  goes : Goes IsPlacedStatement Closes (rest_of l.words l.start) found (rest_of l.words l.at);
  placed : places_data l.places ≡ with_rules (places_data l.initial.places) (flat_map if_any found);
  behind : l.start ≤ l.at;
}

abbrev pub decreases-statements : goal.decreases-statements
decreases-statements l = length l.words - l.at
