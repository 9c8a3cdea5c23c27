use Rattle.std.proofs.Common.{◌≡◌, ℕ, ◌<◌, Contains, get_or}
use Rattle.aa_model.specs.declared.request.Request.{Request}
use Rattle.aa_differences.specs.declared.at_labels.Difference.{Difference}
use Rattle.aa_differences.specs.Differences.{IsDifference, IsListedAt}
use Rattle.aa_differences.proofs.at_labels.differences_of.Given as goal

abbrev pub invariant-loop-request : goal.invariant-loop-request
invariant-loop-request l = record {
  each : (d : Difference) → Contains l.differences.items d → IsDifference l.old l.new d;
  all : (k : ℕ) (r : Request) → k < l.request-index → get_or l.requests k r ≡ r → IsListedAt l.old l.new l.from l.to r l.differences.items;
}
