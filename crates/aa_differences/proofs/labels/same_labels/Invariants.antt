use Rattle.std.proofs.Common.{ℕ, ◌<◌, Contains}
use Rattle.aa_differences.specs.declared.labels.Labels.{Labels}
use Rattle.aa_differences.specs.Same.{SameLabel}
use Rattle.aa_differences.specs.Pairs.{HasPairsAt}
use Rattle.aa_differences.proofs.labels.same_labels.Given as goal

abbrev pub invariant-loop-policy : goal.invariant-loop-policy
invariant-loop-policy l = record {
  each : (x : Labels) → Contains l.labels.items x → SameLabel l.old l.new x.from x.to;
  has : (k : ℕ) → k < l.policy → HasPairsAt l.old l.new k l.labels.items;
}
