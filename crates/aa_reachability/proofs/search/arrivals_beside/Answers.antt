use Rattle.std.proofs.Common.{List, sym, subst}
use Rattle.aa_reachability.specs.declared.trail.Arrival.{Arrival}
use Rattle.aa_reachability.specs.Reach.{IsOpen, AreUntoldFor}
use Rattle.aa_reachability.specs.Beside.{IsSure, AreArrivalsBeside}
use Rattle.aa_reachability.specs.Course.{label_on, IsSureOn, IsTakenOn}
use Rattle.aa_reachability.proofs.Besides.{holds_on}
use Rattle.aa_reachability.proofs.Searching.{are_arrivals, are_untold}
use Rattle.aa_reachability.proofs.search.arrivals_beside.Goals as goal

pub returns-clause-arrivals : goal.returns-clause-arrivals
returns-clause-arrivals c =
    let course = c.args.course in
    let found = c.in_ok-found.found in
    let trail = found.trail in
    let untold = found.untold.items in
    subst (λ (list : List Arrival). AreArrivalsBeside (label_on course) (IsOpen untold) (IsSure untold (IsSureOn course)) (IsTakenOn course) c.args.from list)
    (sym c.into_arrivals.ensures)
    (are_arrivals (label_on course) (IsSureOn course) (IsTakenOn course) course.only_clean course.going.policies.now c.args.from trail.known.keys trail.arrivals.items
    c.in_ok-found.ensures.trail c.args.limit untold c.in_ok-found.ensures.followed (holds_on course))

pub returns-clause-untold : goal.returns-clause-untold
returns-clause-untold c =
    let course = c.args.course in
    let found = c.in_ok-found.found in
    let trail = found.trail in
    subst (λ (list : List Arrival). AreUntoldFor course.only_clean course.going.policies.now c.args.limit list found.untold.items) (sym c.into_arrivals.ensures)
    (are_untold (label_on course) (IsSureOn course) (IsTakenOn course) course.only_clean course.going.policies.now c.args.from trail.known.keys trail.arrivals.items
    c.in_ok-found.ensures.trail c.args.limit found.untold.items c.in_ok-found.ensures.followed (holds_on course))
