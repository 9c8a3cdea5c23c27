use Rattle.std.proofs.Common.{◌+◌, ◌∷◌, [], arith}
use Rattle.std.proofs.lemmas.Result.{IfOk-weaker}
use Rattle.aa_auto.proofs.FewLemmas.{places_left, places_right}
use Rattle.aa_auto.proofs.JoinLemmas.{can_move}
use Rattle.aa_representatives.specs.Both.{filing_both}
use Rattle.aa_representatives.proofs.Making.{err_same}
use Rattle.aa_representatives.proofs.more.filing_automaton_of_both_and.Goals as goal

pub beside-requires-clause-moved : goal.beside-requires-clause-moved
beside-requires-clause-moved c =
    can_move (c.args.more.now ∷ []) c.in_ok-last.last c.args.count c.in_ok-last.ensures.built.automaton (omega (arith, c.requires.few))

pub returns-in_err-both-clause-too_many : goal.returns-in_err-both-clause-too_many
returns-in_err-both-clause-too_many c = λ e.
    places_left (filing_both c.args.one.now c.args.from c.args.other.now c.args.to) (c.args.more.now ∷ []) (c.args.limit + 1)
    (c.in_err-both.ensures.too_many (err_same c.from_residual.result _ _ c.from_residual.ensures.1 e))

pub returns-in_err-last-clause-too_many : goal.returns-in_err-last-clause-too_many
returns-in_err-last-clause-too_many c = λ e.
    places_right (filing_both c.args.one.now c.args.from c.args.other.now c.args.to) (c.args.more.now ∷ []) (c.args.limit + 1)
    (c.in_err-last.ensures.too_many (err_same c.from_residual-in_err-last.result _ _ c.from_residual-in_err-last.ensures.1 e))

pub returns-clause-built : goal.returns-clause-built
returns-clause-built c =
    let both = filing_both c.args.one.now c.args.from c.args.other.now c.args.to in
    IfOk-weaker c.beside.result _ _ (λ t made. made both (c.args.more.now ∷ []) c.in_ok-both.ensures.built c.in_ok-last.ensures.built c.requires.count)
    c.beside.ensures.automaton

pub returns-clause-too_many : goal.returns-clause-too_many
returns-clause-too_many c = λ e.
    let both = filing_both c.args.one.now c.args.from c.args.other.now c.args.to in
    c.beside.ensures.too_many e both (c.args.more.now ∷ []) c.in_ok-both.ensures.built c.in_ok-last.ensures.built
