use Rattle.aa_auto.proofs.FewLemmas.{few_rows}
use Rattle.aa_regions.proofs.Collecting.{automaton_lists}
use Rattle.aa_representatives.specs.Alike.{deciding}
use Rattle.aa_representatives.proofs.regions.deciding_regions.Goals as goal

pub path_regions_of-requires : goal.path_regions_of-requires
path_regions_of-requires c = automaton_lists (deciding c.args.policies.now c.args.label) c.in_ok-automaton.automaton c.in_ok-automaton.ensures.built.automaton

pub returns-clause-regions : goal.returns-clause-regions
returns-clause-regions c = c.in_ok-regions.ensures (deciding c.args.policies.now c.args.label) c.in_ok-automaton.ensures.built.automaton

pub returns-clause-few_states : goal.returns-clause-few_states
returns-clause-few_states c =
    few_rows (deciding c.args.policies.now c.args.label) c.in_ok-automaton.automaton c.args.limit c.in_ok-automaton.ensures.built.automaton
    c.in_ok-automaton.ensures.within
