use Rattle.std.proofs.Common.{◌+◌, [], sym}
use Rattle.std.proofs.lemmas.Result.{IfOk-weaker}
use Rattle.aa_auto.proofs.FewLemmas.{places_left}
use Rattle.aa_representatives.specs.Alike.{filing}
use Rattle.aa_representatives.specs.Both.{filing_both}
use Rattle.aa_representatives.proofs.Making.{can_move_by, err_same}
use Rattle.aa_representatives.proofs.more.filing_automaton_of_both.Goals as goal

pub beside-requires-clause-moved : goal.beside-requires-clause-moved
beside-requires-clause-moved c =
    let xs = filing c.args.one.now c.args.from in
    let ys = filing c.args.other.now c.args.to in
    can_move_by xs ys c.filing_automaton-after.result.now _ c.filing_count-count.ensures c.filing_automaton-after.ensures c.requires.few

pub returns-in_err-none-clause-too_many : goal.returns-in_err-none-clause-too_many
returns-in_err-none-clause-too_many c = λ e.
    places_left [] (filing_both c.args.one.now c.args.from c.args.other.now c.args.to) (c.args.limit + 1)
    (c.in_err-none.ensures.too_many (err_same c.from_residual.result _ _ c.from_residual.ensures.1 e))

pub returns-clause-built : goal.returns-clause-built
returns-clause-built c =
    let xs = filing c.args.one.now c.args.from in
    let ys = filing c.args.other.now c.args.to in
    IfOk-weaker c.beside.result _ _
    (λ t made. made xs ys c.filing_automaton-before.ensures c.filing_automaton-after.ensures (sym c.filing_count-count.ensures))
    c.beside.ensures.automaton

pub returns-clause-too_many : goal.returns-clause-too_many
returns-clause-too_many c = λ e.
    let xs = filing c.args.one.now c.args.from in
    let ys = filing c.args.other.now c.args.to in
    c.beside.ensures.too_many e xs ys c.filing_automaton-before.ensures c.filing_automaton-after.ensures
