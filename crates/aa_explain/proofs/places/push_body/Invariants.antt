use Rattle.std.proofs.Common.{◌≡◌, ◌≤◌, ◌++◌, List, length, ◌-◌, map}
use Rattle.std.specs.Prelude.{flat_map}
use Rattle.aa_rules.specs.Grammar.{Closes}
use Rattle.aa_rules.specs.Reading.{rest_of}
use Rattle.aa_rules.proofs.Repetition.{Reaches}
use Rattle.aa_policy.specs.Bodies.{PartData, IsBodyPart}
use Rattle.aa_explain.specs.Places.{PlacedPart, IsPlacedPart, rules_in, children_in, with_rules, places_of, places_data}
use Rattle.aa_explain.proofs.Placing.{Goes}
use Rattle.aa_explain.proofs.places.push_body.Given as goal

abbrev pub invariant-parts : goal.invariant-parts
invariant-parts l = record {
  found : List PlacedPart;
  read : List PartData;
  reach : Reaches IsBodyPart Closes (rest_of l.words l.start) read (rest_of l.words l.at);
  goes : Goes IsPlacedPart Closes (rest_of l.words l.start) found (rest_of l.words l.at);
  placed : places_data l.family.own ≡ with_rules (places_data l.initial.family.own) (flat_map rules_in found);
  listed : map places_data l.family.children.items ≡ map places_data l.initial.family.children.items ++ map places_of (flat_map children_in found);
  behind : l.start ≤ l.at;
}

abbrev pub decreases-parts : goal.decreases-parts
decreases-parts l = length l.words - l.at
