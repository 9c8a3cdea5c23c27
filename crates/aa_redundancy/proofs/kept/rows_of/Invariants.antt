use Rattle.std.proofs.Common.{[], ◌∷◌}
use Rattle.aa_redundancy.specs.Plain.{HasRows}
use Rattle.aa_redundancy.proofs.kept.rows_of.Given as goal

abbrev pub invariant-loop-number : goal.invariant-loop-number
invariant-loop-number l = HasRows (λ n. n ∷ []) l.number l.rows.items
