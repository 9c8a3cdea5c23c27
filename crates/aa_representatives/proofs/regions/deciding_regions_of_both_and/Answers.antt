use Rattle.std.proofs.Common.{◌++◌, ◌∷◌, [], arith, length-append}
use Rattle.aa_auto.proofs.FewLemmas.{few_rows}
use Rattle.aa_regions.proofs.Collecting.{automaton_lists}
use Rattle.aa_representatives.specs.Alike.{deciding}
use Rattle.aa_representatives.specs.Both.{deciding_both}
use Rattle.aa_representatives.proofs.Making.{err_from}
use Rattle.aa_representatives.proofs.regions.deciding_regions_of_both_and.Goals as goal

pub automaton_of_both_and-requires-clause-count : goal.automaton_of_both_and-requires-clause-count
automaton_of_both_and-requires-clause-count c =
    let xs = deciding c.args.one.now c.args.from in
    let ys = deciding c.args.other.now c.args.to in
    omega (arith, length-append xs ys, c.deciding_count-count.ensures, c.deciding_count-more.ensures)

pub path_regions_of-requires : goal.path_regions_of-requires
path_regions_of-requires c =
    let both = deciding_both c.args.one.now c.args.from c.args.other.now c.args.to in
    automaton_lists (both ++ c.args.pattern.now ∷ []) c.in_ok-automaton.automaton c.in_ok-automaton.ensures.built.automaton

pub returns-clause-regions : goal.returns-clause-regions
returns-clause-regions c =
    let both = deciding_both c.args.one.now c.args.from c.args.other.now c.args.to in
    c.in_ok-regions.ensures (both ++ c.args.pattern.now ∷ []) c.in_ok-automaton.ensures.built.automaton

pub returns-clause-few_states : goal.returns-clause-few_states
returns-clause-few_states c =
    let both = deciding_both c.args.one.now c.args.from c.args.other.now c.args.to in
    few_rows (both ++ c.args.pattern.now ∷ []) c.in_ok-automaton.automaton c.args.limit c.in_ok-automaton.ensures.built.automaton
    c.in_ok-automaton.ensures.within

pub returns-in_err-automaton-clause-many_states : goal.returns-in_err-automaton-clause-many_states
returns-in_err-automaton-clause-many_states c = λ e.
    c.in_err-automaton.ensures.too_many (err_from c.from_residual.result _ c.from_residual.ensures.1 e)
