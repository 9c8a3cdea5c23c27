use Rattle.std.proofs.Common.{List, Contains, sym, subst, arith}
use Rattle.aa_model.specs.declared.request.Request.{Request}
use Rattle.aa_reachability.specs.declared.trail.Arrival.{Arrival}
use Rattle.aa_reachability.specs.Beside.{LeadAllOn}
use Rattle.aa_reachability.specs.Course.{label_on}
use Rattle.aa_reachability.specs.Trail.{arrival_at}
use Rattle.aa_reachability.proofs.Besides.{lead_on}
use Rattle.aa_reachability.proofs.Reaching.{extends_at, extends_length, followed_all}
use Rattle.aa_reachability.proofs.search.follow_all.Goals as goal

pub returns-clause-followed : goal.returns-clause-followed
returns-clause-followed c = λ sure.
    let go = label_on c.args.course in
    let was = c.args.trail.now.arrivals.items in
    let now = c.follow_each.new.trail.arrivals.items in
    let n = c.args.number in
    let requests = c.args.requests.now in
    let made = c.in_ok-follow_each.ensures in
    let lead : LeadAllOn go (arrival_at now n).label requests =
    subst (λ (x : Arrival). LeadAllOn go x.label requests) (sym (extends_at was now made.extends n c.requires.within))
    (lead_on c.args.course (arrival_at was n).label requests (c.requires.sure sure) c.requires.lead) in
    followed_all go now n requests (omega (arith, c.requires.within, extends_length was now made.extends)) lead made.followed
