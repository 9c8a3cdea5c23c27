use Rattle.std.proofs.Common.{◌≤◌, length, ◌-◌, Bool}
use Rattle.aa_base.specs.declared.fault.Spot.{Spot}
use Rattle.aa_policy.specs.Preamble.{IsMisnamed}
use Rattle.aa_rules.specs.Reading.{rest_of}
use Rattle.aa_policy.proofs.Preambles.{Ahead, Stands}
use Rattle.aa_policy.proofs.preamble.preamble_of.Given as goal

abbrev pub invariant-items : goal.invariant-items
invariant-items l = record {
  ahead : (adds : Bool) (spot : Spot) → IsMisnamed adds (rest_of l.words l.start) spot → Ahead adds l.vars (rest_of l.words l.at) spot;
  stands : Stands (rest_of l.words l.start) (rest_of l.words l.at) l.vars;
  behind : l.start ≤ l.at;
  within : l.at ≤ length l.words;
}

abbrev pub decreases-items : goal.decreases-items
decreases-items l = length l.words - l.at
