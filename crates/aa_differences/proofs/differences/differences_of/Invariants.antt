use Rattle.std.proofs.Common.{◌≡◌, ℕ, ◌<◌, Contains, get_or}
use Rattle.aa_differences.specs.declared.at_labels.Difference.{Difference}
use Rattle.aa_differences.specs.declared.comparison.UntoldLabels.{UntoldLabels}
use Rattle.aa_differences.specs.declared.labels.Labels.{Labels}
use Rattle.aa_differences.specs.Differences.{IsDifference, IsUntold, AreTold, ListAllAt}
use Rattle.aa_differences.proofs.differences.differences_of.Given as goal

abbrev pub invariant-loop-at : goal.invariant-loop-at
invariant-loop-at l = record {
  each : (d : Difference) → Contains l.found.differences.items d → IsDifference l.old l.new d;
  untold : (u : UntoldLabels) → Contains l.found.untold.items u → IsUntold l.old l.new l.limit u;
  all : (k : ℕ) (x : Labels) → k < l.at-index → get_or l.labels k x ≡ x → AreTold l.found.untold.items x.from x.to
      → ListAllAt l.old l.new x.from x.to l.found.differences.items;
}
