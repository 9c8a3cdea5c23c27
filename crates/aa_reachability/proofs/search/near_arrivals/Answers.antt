use Rattle.std.proofs.Common.{[], refl}
use Rattle.aa_reachability.proofs.Besides.{whole_openings, whole_near}
use Rattle.aa_reachability.proofs.search.near_arrivals.Goals as goal

pub near_beside-requires-clause-openings : goal.near_beside-requires-clause-openings
near_beside-requires-clause-openings c = whole_openings c.args.going.policies.now [] [] refl

pub returns-clause-near : goal.returns-clause-near
returns-clause-near c = whole_near _ refl refl c.args.from c.in_ok-near.near.items c.in_ok-near.ensures.near
