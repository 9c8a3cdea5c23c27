use Rattle.std.proofs.Common.{◌+◌, sym, arith, length-append}
use Rattle.std.proofs.lemmas.Result.{IfOk-weaker}
use Rattle.aa_auto.proofs.FewLemmas.{places_left, places_right}
use Rattle.aa_representatives.specs.Alike.{deciding}
use Rattle.aa_representatives.proofs.Making.{can_move_by, err_same}
use Rattle.aa_representatives.proofs.more.automaton_of_both.Goals as goal

pub deciding_automaton-requires-clause-few : goal.deciding_automaton-requires-clause-few
deciding_automaton-requires-clause-few c =
    let xs = deciding c.args.one.now c.args.from in
    let ys = deciding c.args.other.now c.args.to in
    omega (arith, c.requires.few, length-append xs ys)

pub deciding_automaton-requires-2-clause-few : goal.deciding_automaton-requires-2-clause-few
deciding_automaton-requires-2-clause-few c =
    let xs = deciding c.args.one.now c.args.from in
    let ys = deciding c.args.other.now c.args.to in
    omega (arith, c.requires.few, length-append xs ys)

pub beside-requires-clause-moved : goal.beside-requires-clause-moved
beside-requires-clause-moved c =
    let xs = deciding c.args.one.now c.args.from in
    let ys = deciding c.args.other.now c.args.to in
    can_move_by xs ys c.in_ok-after.after _ c.deciding_count-count.ensures c.in_ok-after.ensures.built c.requires.few

pub returns-in_err-before-clause-too_many : goal.returns-in_err-before-clause-too_many
returns-in_err-before-clause-too_many c = λ e.
    let xs = deciding c.args.one.now c.args.from in
    let ys = deciding c.args.other.now c.args.to in
    places_left xs ys (c.args.limit + 1)
    (c.in_err-before.ensures.too_many (err_same c.from_residual.result _ _ c.from_residual.ensures.1 e))

pub returns-in_err-after-clause-too_many : goal.returns-in_err-after-clause-too_many
returns-in_err-after-clause-too_many c = λ e.
    let xs = deciding c.args.one.now c.args.from in
    let ys = deciding c.args.other.now c.args.to in
    places_right xs ys (c.args.limit + 1)
    (c.in_err-after.ensures.too_many (err_same c.from_residual-in_err-after.result _ _ c.from_residual-in_err-after.ensures.1 e))

pub returns-clause-built : goal.returns-clause-built
returns-clause-built c =
    let xs = deciding c.args.one.now c.args.from in
    let ys = deciding c.args.other.now c.args.to in
    IfOk-weaker c.beside.result _ _
    (λ t made. made xs ys c.in_ok-before.ensures.built c.in_ok-after.ensures.built (sym c.deciding_count-count.ensures))
    c.beside.ensures.automaton

pub returns-clause-too_many : goal.returns-clause-too_many
returns-clause-too_many c = λ e.
    let xs = deciding c.args.one.now c.args.from in
    let ys = deciding c.args.other.now c.args.to in
    c.beside.ensures.too_many e xs ys c.in_ok-before.ensures.built c.in_ok-after.ensures.built
