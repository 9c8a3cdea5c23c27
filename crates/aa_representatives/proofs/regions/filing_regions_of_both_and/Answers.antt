use Rattle.std.proofs.Common.{◌++◌, ◌∷◌, [], arith, length-append}
use Rattle.aa_regions.proofs.Collecting.{automaton_lists}
use Rattle.aa_representatives.specs.Alike.{filing}
use Rattle.aa_representatives.specs.Both.{filing_both}
use Rattle.aa_representatives.proofs.Making.{err_same}
use Rattle.aa_representatives.proofs.regions.filing_regions_of_both_and.Goals as goal

pub overflow_add-all : goal.overflow_add-all
overflow_add-all c =
    let xs = filing c.args.one.now c.args.from in
    let ys = filing c.args.other.now c.args.to in
    omega (arith, length-append xs ys, c.filing_count-count.ensures, c.filing_count-more.ensures, c.requires.few)

pub filing_automaton_of_both_and-requires-clause-count : goal.filing_automaton_of_both_and-requires-clause-count
filing_automaton_of_both_and-requires-clause-count c =
    let xs = filing c.args.one.now c.args.from in
    let ys = filing c.args.other.now c.args.to in
    omega (arith, length-append xs ys, c.filing_count-count.ensures, c.filing_count-more.ensures)

pub filing_automaton_of_both_and-requires-clause-few : goal.filing_automaton_of_both_and-requires-clause-few
filing_automaton_of_both_and-requires-clause-few c =
    let xs = filing c.args.one.now c.args.from in
    let ys = filing c.args.other.now c.args.to in
    omega (arith, length-append xs ys, c.filing_count-count.ensures, c.filing_count-more.ensures, c.requires.few)

pub path_regions_of-requires : goal.path_regions_of-requires
path_regions_of-requires c =
    let patterns = filing_both c.args.one.now c.args.from c.args.other.now c.args.to ++ c.args.pattern.now ∷ [] in
    automaton_lists patterns c.in_ok-automaton.automaton c.in_ok-automaton.ensures.built.automaton

pub returns-clause-regions : goal.returns-clause-regions
returns-clause-regions c =
    let patterns = filing_both c.args.one.now c.args.from c.args.other.now c.args.to ++ c.args.pattern.now ∷ [] in
    c.in_ok-regions.ensures patterns c.in_ok-automaton.ensures.built.automaton

pub returns-in_err-automaton-clause-many_states : goal.returns-in_err-automaton-clause-many_states
returns-in_err-automaton-clause-many_states c = λ e.
    c.in_err-automaton.ensures.too_many (err_same c.from_residual.result _ _ c.from_residual.ensures.1 e)
