use Rattle.std.proofs.Common.{length, ◌-◌, ◌↔◌, ◌≤◌, drop}
use Rattle.aa_pattern.specs.Globs.{Matches}
use Rattle.aa_pattern.proofs.matching.front_length.Given as goal

abbrev pub invariant-loop-at : goal.invariant-loop-at
invariant-loop-at l = record {
  items : l.at ≤ length l.items;
  text : l.at ≤ length l.text;
  same : Matches l.items l.text ↔ Matches (drop l.at l.items) (drop l.at l.text);
}

abbrev pub decreases-loop-at : goal.decreases-loop-at
decreases-loop-at l = length l.items - l.at
