use Rattle.std.proofs.Common.{◌+◌, ◌∷◌, [], refl, arith}
use Rattle.std.proofs.lemmas.Result.{IfOk-weaker}
use Rattle.aa_auto.proofs.FewLemmas.{places_left, places_right}
use Rattle.aa_auto.proofs.JoinLemmas.{can_move}
use Rattle.aa_representatives.specs.Alike.{deciding}
use Rattle.aa_representatives.proofs.Making.{err_same}
use Rattle.aa_representatives.proofs.more.deciding_automaton_and.Goals as goal

pub beside-requires-clause-moved : goal.beside-requires-clause-moved
beside-requires-clause-moved c =
    can_move (deciding c.args.policies.now c.args.label) c.in_ok-others.others 1 c.in_ok-others.ensures.built.automaton (omega (arith, c.requires.few))

pub returns-in_err-first-clause-too_many : goal.returns-in_err-first-clause-too_many
returns-in_err-first-clause-too_many c = λ e.
    places_left (c.args.more.now ∷ []) (deciding c.args.policies.now c.args.label) (c.args.limit + 1)
    (c.in_err-first.ensures.too_many (err_same c.from_residual.result _ _ c.from_residual.ensures.1 e))

pub returns-in_err-others-clause-too_many : goal.returns-in_err-others-clause-too_many
returns-in_err-others-clause-too_many c = λ e.
    places_right (c.args.more.now ∷ []) (deciding c.args.policies.now c.args.label) (c.args.limit + 1)
    (c.in_err-others.ensures.too_many (err_same c.from_residual-in_err-others.result _ _ c.from_residual-in_err-others.ensures.1 e))

pub returns-clause-built : goal.returns-clause-built
returns-clause-built c =
    IfOk-weaker c.beside.result _ _
    (λ t made. made (c.args.more.now ∷ []) (deciding c.args.policies.now c.args.label) c.in_ok-first.ensures.built c.in_ok-others.ensures.built refl)
    c.beside.ensures.automaton

pub returns-clause-too_many : goal.returns-clause-too_many
returns-clause-too_many c = λ e.
    c.beside.ensures.too_many e (c.args.more.now ∷ []) (deciding c.args.policies.now c.args.label) c.in_ok-first.ensures.built c.in_ok-others.ensures.built
