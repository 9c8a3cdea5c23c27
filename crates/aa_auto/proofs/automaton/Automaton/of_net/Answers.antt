use Rattle.std.proofs.Common.{subst}
use Rattle.aa_auto.specs.Explored.{IsExplored}
use Rattle.aa_auto.proofs.automaton.Automaton.of_net.Goals as goal

pub from_parts-requires-clause-explored : goal.from_parts-requires-clause-explored
from_parts-requires-clause-explored c =
    subst (λ bs. IsExplored c.args.net.now c.in_ok-found.found.sets bs c.in_ok-found.cells c.in_ok-found.found.lists) c.as_slice.ensures.value
    c.in_ok-found.ensures.explored
