use Rattle.std.proofs.Common.{◌≤◌, length, ◌-◌, map}
use Rattle.aa_policy.specs.Preamble.{IsValue, NoValue}
use Rattle.aa_rules.specs.Reading.{rest_of}
use Rattle.aa_rules.proofs.Repetition.{Reaches}
use Rattle.aa_policy.proofs.assignments.values_at.Given as goal

abbrev pub invariant-values : goal.invariant-values
invariant-values l = record {
  reach : Reaches IsValue NoValue (rest_of l.words l.start) (map (λ v. v.now) l.values.items) (rest_of l.words l.at);
  behind : l.start ≤ l.at;
  within : l.at ≤ length l.words;
}

abbrev pub decreases-values : goal.decreases-values
decreases-values l = length l.words - l.at
