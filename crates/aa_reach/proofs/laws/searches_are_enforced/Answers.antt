use Rattle.aa_reach.proofs.Enforcing.{steps_enforced, searches_enforced, edges_enforced}
use Rattle.aa_reach.proofs.laws.searches_are_enforced.Goals as goal

pub returns : goal.returns
returns c = record { steps = steps_enforced; searches = searches_enforced; edges = edges_enforced }
