use Rattle.std.proofs.Common.{◌+◌, ◌++◌, [], ◌∷◌, arith}
use Rattle.aa_auto.proofs.FewLemmas.{few_pairs, few_rows, places_right}
use Rattle.aa_auto.proofs.JoinLemmas.{can_move}
use Rattle.aa_regions.proofs.Collecting.{automaton_lists, narrowed_lists}
use Rattle.aa_regions.proofs.Paths.{all_within}
use Rattle.aa_representatives.proofs.Making.{err_same}
use Rattle.aa_representatives.proofs.automata.regions_within.Goals as goal

pub narrowed-requires-clause-moved : goal.narrowed-requires-clause-moved
narrowed-requires-clause-moved c = can_move (c.args.pattern.now ∷ []) c.in_ok-last.last c.args.count c.in_ok-last.ensures.built.automaton
    (omega (arith, c.requires.few))

pub beside-requires-clause-moved : goal.beside-requires-clause-moved
beside-requires-clause-moved c = can_move (c.args.pattern.now ∷ []) c.in_ok-last.last c.args.count c.in_ok-last.ensures.built.automaton
    (omega (arith, c.requires.few))

pub path_regions_within-requires : goal.path_regions_within-requires
path_regions_within-requires c =
    let b = c.requires.built in
    narrowed_lists b.0 c.args.pattern.now c.in_ok-narrowed.narrowed
    (c.in_ok-narrowed.ensures.narrowed b.0 c.args.pattern.now b.2 c.in_ok-last.ensures.built b.1)

pub path_regions_of-requires : goal.path_regions_of-requires
path_regions_of-requires c =
    let b = c.requires.built in
    automaton_lists (b.0 ++ c.args.pattern.now ∷ []) c.in_ok-whole.whole
    (c.in_ok-whole.ensures.automaton b.0 (c.args.pattern.now ∷ []) b.2 c.in_ok-last.ensures.built b.1).automaton

pub returns-then-is_few-clause-regions : goal.returns-then-is_few-clause-regions
returns-then-is_few-clause-regions c = λ ps b count.
    c.in_ok-path_regions_within.ensures ps c.args.pattern.now (c.in_ok-narrowed.ensures.narrowed ps c.args.pattern.now b c.in_ok-last.ensures.built count)

pub returns-then-is_few-clause-few_states : goal.returns-then-is_few-clause-few_states
returns-then-is_few-clause-few_states c = λ ps b count h.
    few_pairs ps (c.args.pattern.now ∷ []) c.args.automaton.now c.in_ok-last.last c.args.limit b.automaton c.in_ok-last.ensures.built.automaton
    (c.is_few.ensures c.if-is_few.true) h

pub returns-clause-regions : goal.returns-clause-regions
returns-clause-regions c = λ ps b count.
    all_within ps c.args.pattern.now c.in_ok-regions.regions.items
    (c.in_ok-regions.ensures (ps ++ c.args.pattern.now ∷ [])
    (c.in_ok-whole.ensures.automaton ps (c.args.pattern.now ∷ []) b c.in_ok-last.ensures.built count).automaton)

pub returns-clause-few_states : goal.returns-clause-few_states
returns-clause-few_states c = λ ps b count h.
    few_rows (ps ++ c.args.pattern.now ∷ []) c.in_ok-whole.whole c.args.limit
    (c.in_ok-whole.ensures.automaton ps (c.args.pattern.now ∷ []) b c.in_ok-last.ensures.built count).automaton c.in_ok-whole.ensures.within h

pub returns-in_err-last-clause-many_states : goal.returns-in_err-last-clause-many_states
returns-in_err-last-clause-many_states c = λ e ps b.
    places_right ps (c.args.pattern.now ∷ []) (c.args.limit + 1)
    (c.in_err-last.ensures.too_many (err_same c.from_residual.result _ _ c.from_residual.ensures.1 e))
