use Rattle.aa_reach.proofs.Telling.{found_beside}
use Rattle.aa_reach.proofs.searching.reached_from.Goals as goal

pub arrivals_beside-requires-clause-openings : goal.arrivals_beside-requires-clause-openings
arrivals_beside-requires-clause-openings c = c.requires.beside.rightly

pub returns-clause-found : goal.returns-clause-found
returns-clause-found c =
    let found = c.in_ok-reached.reached in
    found_beside c.args.beside c.requires.beside c.args.only_clean found.untold.items c.args.from found.arrivals.items c.in_ok-reached.ensures.arrivals
