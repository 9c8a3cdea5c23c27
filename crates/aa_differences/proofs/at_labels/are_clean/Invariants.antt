use Rattle.std.proofs.Common.{◌≡◌, ℕ, ◌<◌, get_or}
use Rattle.aa_unclean_paths.specs.Requests.{IsAtUncleanPath}
use Rattle.aa_differences.specs.declared.at_labels.Difference.{Difference}
use Rattle.aa_differences.proofs.at_labels.are_clean.Given as goal

abbrev pub invariant-loop-difference : goal.invariant-loop-difference
invariant-loop-difference l = (k : ℕ) (d : Difference) → k < l.difference-index → get_or l.differences k d ≡ d → IsAtUncleanPath d.request → ⊥
