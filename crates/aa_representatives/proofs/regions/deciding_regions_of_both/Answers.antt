use Rattle.std.proofs.Common.{◌++◌, ◌+◌, sym, arith, length-append}
use Rattle.aa_auto.proofs.FewLemmas.{few_rows, places_left, places_right}
use Rattle.aa_regions.proofs.Collecting.{automaton_lists}
use Rattle.aa_representatives.specs.Alike.{deciding}
use Rattle.aa_representatives.proofs.Making.{can_move_by, err_from, not_many}
use Rattle.aa_representatives.proofs.regions.deciding_regions_of_both.Goals as goal

pub beside-requires-clause-moved : goal.beside-requires-clause-moved
beside-requires-clause-moved c =
    let xs = deciding c.args.one.now c.args.from in
    let ys = deciding c.args.other.now c.args.to in
    can_move_by xs ys c.in_ok-after.after _ c.deciding_count-count.ensures c.in_ok-after.ensures.built
    (omega (
      arith,
      length-append xs ys,
      c.deciding_count-count.ensures,
      c.deciding_count-more.ensures,
      c.saturating_add.ensures,
      c.if-saturating_add-gt-MAX_PATTERNS.false,
    ))

pub path_regions_of-requires : goal.path_regions_of-requires
path_regions_of-requires c =
    let xs = deciding c.args.one.now c.args.from in
    let ys = deciding c.args.other.now c.args.to in
    automaton_lists (xs ++ ys) c.in_ok-both.both
    (c.in_ok-both.ensures.automaton xs ys c.in_ok-before.ensures.built c.in_ok-after.ensures.built (sym c.deciding_count-count.ensures)).automaton

pub returns-clause-regions : goal.returns-clause-regions
returns-clause-regions c =
    let xs = deciding c.args.one.now c.args.from in
    let ys = deciding c.args.other.now c.args.to in
    c.in_ok-regions.ensures (xs ++ ys)
    (c.in_ok-both.ensures.automaton xs ys c.in_ok-before.ensures.built c.in_ok-after.ensures.built (sym c.deciding_count-count.ensures)).automaton

pub returns-clause-few_states : goal.returns-clause-few_states
returns-clause-few_states c =
    let xs = deciding c.args.one.now c.args.from in
    let ys = deciding c.args.other.now c.args.to in
    few_rows (xs ++ ys) c.in_ok-both.both c.args.limit
    (c.in_ok-both.ensures.automaton xs ys c.in_ok-before.ensures.built c.in_ok-after.ensures.built (sym c.deciding_count-count.ensures)).automaton
    c.in_ok-both.ensures.within

pub returns-in_err-before-clause-many_states : goal.returns-in_err-before-clause-many_states
returns-in_err-before-clause-many_states c = λ e.
    places_left (deciding c.args.one.now c.args.from) (deciding c.args.other.now c.args.to) (c.args.limit + 1)
    (c.in_err-before.ensures.too_many (err_from c.from_residual.result _ c.from_residual.ensures.1 e))

pub returns-in_err-after-clause-many_states : goal.returns-in_err-after-clause-many_states
returns-in_err-after-clause-many_states c = λ e.
    places_right (deciding c.args.one.now c.args.from) (deciding c.args.other.now c.args.to) (c.args.limit + 1)
    (c.in_err-after.ensures.too_many (err_from c.from_residual-in_err-after.result _ c.from_residual-in_err-after.ensures.1 e))

pub returns-in_err-both-clause-many_states : goal.returns-in_err-both-clause-many_states
returns-in_err-both-clause-many_states c = λ e.
    c.in_err-both.ensures.too_many (err_from c.from_residual-in_err-both.result _ c.from_residual-in_err-both.ensures.1 e)
    (deciding c.args.one.now c.args.from) (deciding c.args.other.now c.args.to)
    c.in_ok-before.ensures.built c.in_ok-after.ensures.built

pub returns-in_err-both-clause-many_patterns : goal.returns-in_err-both-clause-many_patterns
returns-in_err-both-clause-many_patterns c = λ e. absurd (not_many c.from_residual-in_err-both.result _ c.from_residual-in_err-both.ensures.1 e)
