use Rattle.std.proofs.Common.{[], refl}
use Rattle.aa_reachability.proofs.Besides.{whole_openings, whole_arrivals}
use Rattle.aa_reachability.proofs.search.arrivals_from.Goals as goal

pub arrivals_beside-requires-clause-openings : goal.arrivals_beside-requires-clause-openings
arrivals_beside-requires-clause-openings c = whole_openings c.args.going.policies.now [] [] refl

pub returns-clause-arrivals : goal.returns-clause-arrivals
returns-clause-arrivals c =
    let reached = c.in_ok-reached.reached in
    whole_arrivals _ refl refl reached.untold.items c.args.from reached.arrivals.items c.in_ok-reached.ensures.arrivals
