use Rattle.aa_auto.specs.Nodes.{pointed}
use Rattle.aa_auto.proofs.FewLemmas.{few_rows}
use Rattle.aa_regions.proofs.Collecting.{are_regions, automaton_lists, text_of}
use Rattle.aa_regions.proofs.regions.regions_of.Goals as goal

pub regions_by-requires-clause-lists : goal.regions_by-requires-clause-lists
regions_by-requires-clause-lists c = automaton_lists (pointed c.args.patterns.now) c.in_ok-automaton.automaton c.in_ok-automaton.ensures.automaton

pub returns-clause-regions : goal.returns-clause-regions
returns-clause-regions c =
    are_regions (pointed c.args.patterns.now) c.in_ok-automaton.automaton c.args.head.now c.args.low c.args.max c.in_ok-regions.regions.items (text_of c.args.head.now c.type_inv.head)
    c.in_ok-automaton.ensures.automaton c.in_ok-regions.ensures.regions

pub returns-clause-fits : goal.returns-clause-fits
returns-clause-fits c =
    let made = c.in_ok-automaton in
    few_rows (pointed c.args.patterns.now) made.automaton c.args.limit made.ensures.automaton made.ensures.within
