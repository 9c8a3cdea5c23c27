use Rattle.std.proofs.Common.{◌≡◌, ◌≤◌, List, Option, length, ◌-◌, map}
use Rattle.std.specs.Prelude.{flat_map}
use Rattle.aa_policy.specs.Bodies.{FamilyData, IsItem, if_any}
use Rattle.aa_rules.proofs.Repetition.{Reaches}
use Rattle.aa_rules.specs.Grammar.{IsEnd}
use Rattle.aa_rules.specs.Reading.{rest_of}
use Rattle.aa_explain.specs.Places.{PlacedFamily, IsPlacedItem, family_row, places_of, places_data}
use Rattle.aa_explain.proofs.Placing.{Goes}
use Rattle.aa_explain.proofs.places.places_in.Given as goal

abbrev pub invariant-items : goal.invariant-items
invariant-items l = record {
  found : List (Option PlacedFamily);
  read : List (Option FamilyData);
  reach : Reaches IsItem IsEnd (rest_of l.words l.start) read (rest_of l.words l.at);
  goes : Goes IsPlacedItem IsEnd (rest_of l.words l.start) found (rest_of l.words l.at);
  placed : map places_data l.found.items ≡ map places_of (flat_map (λ i. flat_map family_row (if_any i)) found);
  within : l.at ≤ length l.words;
}

abbrev pub decreases-items : goal.decreases-items
decreases-items l = length l.words - l.at
