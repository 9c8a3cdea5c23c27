use Rattle.aa_regions.proofs.Collecting.{automaton_lists}
use Rattle.aa_representatives.specs.Both.{filing_both}
use Rattle.aa_representatives.proofs.Making.{err_same}
use Rattle.aa_representatives.proofs.regions.filing_regions_of_both.Goals as goal

pub path_regions_of-requires : goal.path_regions_of-requires
path_regions_of-requires c =
    let patterns = filing_both c.args.one.now c.args.from c.args.other.now c.args.to in
    automaton_lists patterns c.in_ok-automaton.automaton c.in_ok-automaton.ensures.built.automaton

pub returns-clause-regions : goal.returns-clause-regions
returns-clause-regions c =
    let patterns = filing_both c.args.one.now c.args.from c.args.other.now c.args.to in
    c.in_ok-regions.ensures patterns c.in_ok-automaton.ensures.built.automaton

pub returns-in_err-automaton-clause-many_states : goal.returns-in_err-automaton-clause-many_states
returns-in_err-automaton-clause-many_states c = λ e.
    c.in_err-automaton.ensures.too_many (err_same c.from_residual.result _ _ c.from_residual.ensures.1 e)
