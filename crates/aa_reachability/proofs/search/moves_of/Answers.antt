use Rattle.aa_reachability.proofs.Keeping.{lead_by}
use Rattle.aa_reachability.proofs.search.moves_of.Goals as goal

pub returns-clause-lead : goal.returns-clause-lead
returns-clause-lead c = lead_by c.args.course.only_clean c.args.course.going c.args.label c.in_ok-moves.moves.requests.items c.in_ok-moves.ensures.lead
