use Rattle.std.proofs.Common.{◌≤◌, List, Option, length, ◌-◌}
use Rattle.aa_policy.specs.Bodies.{IsStatement}
use Rattle.aa_rules.specs.Grammar.{Closes}
use Rattle.aa_rules.specs.Reading.{RuleData, rest_of}
use Rattle.aa_rules.proofs.Repetition.{Reaches}
use Rattle.aa_diagnostics.proofs.names.child_body_end.Given as goal

abbrev pub invariant-statements : goal.invariant-statements
invariant-statements l = record {
  found : List (Option RuleData);
  reach : Reaches IsStatement Closes (rest_of l.words l.start) found (rest_of l.words l.at);
  behind : l.start ≤ l.at;
}

abbrev pub decreases-statements : goal.decreases-statements
decreases-statements l = length l.words - l.at
