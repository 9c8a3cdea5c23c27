use Rattle.std.proofs.Common.{◌+◌, [], refl, arith}
use Rattle.std.proofs.lemmas.Result.{IfOk-weaker}
use Rattle.aa_auto.proofs.JoinLemmas.{can_move}
use Rattle.aa_auto.proofs.FewLemmas.{places_left}
use Rattle.aa_compile.specs.Checks.{attached_patterns}
use Rattle.aa_compile.specs.Transitions.{tops}
use Rattle.aa_representatives.proofs.Making.{err_same}
use Rattle.aa_representatives.proofs.automata.of_tops.Goals as goal

pub beside-requires-clause-moved : goal.beside-requires-clause-moved
beside-requires-clause-moved c =
    let above = attached_patterns c.args.compiled.now.profiles (tops c.args.compiled.now.profiles) in
    can_move above c.top_automaton.result.now 0 c.top_automaton.ensures.automaton (omega (arith, c.requires.few))

pub returns-in_err-none-clause-too_many : goal.returns-in_err-none-clause-too_many
returns-in_err-none-clause-too_many c = λ e.
    let above = attached_patterns c.args.compiled.now.profiles (tops c.args.compiled.now.profiles) in
    places_left [] above (c.args.limit + 1) (c.in_err-none.ensures.too_many (err_same c.from_residual.result _ _ c.from_residual.ensures.1 e))

pub returns-clause-built : goal.returns-clause-built
returns-clause-built c =
    let above = attached_patterns c.args.compiled.now.profiles (tops c.args.compiled.now.profiles) in
    IfOk-weaker c.beside.result _ _ (λ t made. made [] above c.in_ok-none.ensures.built c.top_automaton.ensures refl) c.beside.ensures.automaton

pub returns-clause-too_many : goal.returns-clause-too_many
returns-clause-too_many c = λ e.
    let above = attached_patterns c.args.compiled.now.profiles (tops c.args.compiled.now.profiles) in
    c.beside.ensures.too_many e [] above c.in_ok-none.ensures.built c.top_automaton.ensures
