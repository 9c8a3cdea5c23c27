use Rattle.std.proofs.Common.{◌≡◌, ◌≤◌, List, Option, length, ◌-◌, map}
use Rattle.std.specs.Prelude.{flat_map}
use Rattle.aa_policy.specs.Bodies.{FamilyData, IsItem, if_any}
use Rattle.aa_rules.specs.Grammar.{IsEnd}
use Rattle.aa_rules.specs.Reading.{rest_of}
use Rattle.aa_rules.proofs.Repetition.{Reaches}
use Rattle.aa_diagnostics.specs.Named.{named_data, family_names}
use Rattle.aa_diagnostics.proofs.names.names_of.Given as goal

abbrev pub invariant-items : goal.invariant-items
invariant-items l = record {
  found : List (Option FamilyData);
  reach : Reaches IsItem IsEnd (rest_of l.words l.start) found (rest_of l.words l.at);
  named : map named_data l.names.items ≡ flat_map family_names (flat_map if_any found);
  within : l.at ≤ length l.words;
}

abbrev pub decreases-items : goal.decreases-items
decreases-items l = length l.words - l.at
