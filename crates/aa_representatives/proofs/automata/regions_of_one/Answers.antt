use Rattle.std.proofs.Common.{[], ◌∷◌}
use Rattle.aa_auto.proofs.FewLemmas.{few_rows}
use Rattle.aa_regions.proofs.Collecting.{automaton_lists}
use Rattle.aa_regions.proofs.Paths.{all_within}
use Rattle.aa_representatives.proofs.automata.regions_of_one.Goals as goal

pub path_regions_of-requires : goal.path_regions_of-requires
path_regions_of-requires c = automaton_lists (c.args.pattern.now ∷ []) c.in_ok-automaton.automaton c.in_ok-automaton.ensures.built.automaton

pub returns-clause-regions : goal.returns-clause-regions
returns-clause-regions c =
    all_within [] c.args.pattern.now c.in_ok-regions.regions.items (c.in_ok-regions.ensures (c.args.pattern.now ∷ [])
    c.in_ok-automaton.ensures.built.automaton)

pub returns-clause-few_states : goal.returns-clause-few_states
returns-clause-few_states c = few_rows (c.args.pattern.now ∷ []) c.in_ok-automaton.automaton c.args.limit c.in_ok-automaton.ensures.built.automaton
    c.in_ok-automaton.ensures.within
