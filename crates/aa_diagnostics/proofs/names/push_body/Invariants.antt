use Rattle.std.proofs.Common.{◌≡◌, ◌≤◌, ◌++◌, List, length, ◌-◌, map}
use Rattle.std.specs.Prelude.{flat_map}
use Rattle.aa_policy.specs.Bodies.{PartData, IsBodyPart, children_in}
use Rattle.aa_rules.specs.Grammar.{Closes}
use Rattle.aa_rules.specs.Reading.{rest_of}
use Rattle.aa_rules.proofs.Repetition.{Reaches}
use Rattle.aa_diagnostics.specs.Named.{named_data, child_named}
use Rattle.aa_diagnostics.proofs.names.push_body.Given as goal

abbrev pub invariant-parts : goal.invariant-parts
invariant-parts l = record {
  found : List PartData;
  reach : Reaches IsBodyPart Closes (rest_of l.words l.start) found (rest_of l.words l.at);
  named : map named_data l.names.items ≡ map named_data l.initial.names.items ++ map (child_named l.parent) (flat_map children_in found);
  behind : l.start ≤ l.at;
}

abbrev pub decreases-parts : goal.decreases-parts
decreases-parts l = length l.words - l.at
