use Rattle.std.proofs.Common.{◌↔◌, ◌≡◌, sym, subst}
use Rattle.aa_compile.specs.Rows.{patterns_of}
use Rattle.aa_compile.specs.States.{HasStates}
use Rattle.aa_compile.proofs.StateLemmas.{counted}
use Rattle.aa_compile.proofs.compiling.Compiled.states.Goals as goal

pub returns-clause-states : goal.returns-clause-states
returns-clause-states c = λ p n at.
    subst (λ m. HasStates (patterns_of p.files) n ↔ (n ≡ m)) (sym c.states.ensures) (counted (c.rows_at.ensures p at).automaton n)
