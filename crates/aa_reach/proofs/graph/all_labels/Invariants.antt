use Rattle.std.proofs.Common.{◌≡◌, [], ◌∷◌, ◌++◌}
use Rattle.aa_model.specs.declared.label.Label.TheVariants.{Unconfined}
use Rattle.aa_reach.specs.Answers.{first_labels}
use Rattle.aa_reach.proofs.graph.all_labels.Given as goal

abbrev pub invariant-loop-number : goal.invariant-loop-number
invariant-loop-number l = l.labels.items ≡ (Unconfined 0 ∷ []) ++ first_labels l.number
