use Rattle.std.proofs.Common.{ℕ, List, length, sym, ◌∙◌, subst}
use Rattle.aa_model.specs.declared.label.Label.{Label}
use Rattle.aa_model.specs.declared.request.Request.{Request}
use Rattle.aa_reachability.specs.Order.{IsInOrder}
use Rattle.aa_reachability.specs.Moves.{LeadAllBy}
use Rattle.aa_reachability.specs.Trail.{AreFirst}
use Rattle.aa_reachability.specs.Beside.{AreNearBeside}
use Rattle.aa_reachability.specs.Course.{label_on, IsSureOn, IsTakenOn}
use Rattle.aa_reachability.proofs.Besides.{lead_on, holds_on}
use Rattle.aa_reachability.proofs.Firsts.{near_shortest}
use Rattle.aa_reachability.proofs.Reaching.{are_near}
use Rattle.aa_reachability.proofs.search.near_beside.Goals as goal

pub returns-clause-near : goal.returns-clause-near
returns-clause-near c =
    let course = c.args.course in
    let trail = c.follow_all.new.trail in
    let made = c.in_ok-follow_all.ensures in
    let from = c.args.from in
    let requests = c.as_slice-requests.result.now in
    let start = c.in_ok-trail.ensures in
    let was = c.in_ok-trail.trail.arrivals.items in
    let first : AreFirst (label_on course) from requests 1 trail.arrivals.items =
    subst (λ (n : ℕ). AreFirst (label_on course) from requests n trail.arrivals.items) start.one
    (subst (λ (l : Label). AreFirst (label_on course) l requests (length was) trail.arrivals.items) start.trail.start made.first) in
    let lead : LeadAllBy course.only_clean course.going from requests = subst (LeadAllBy course.only_clean course.going from) (sym c.as_slice-requests.ensures.value) c.in_ok-moves.ensures.lead in
    let order : IsInOrder requests = subst IsInOrder (sym c.as_slice-requests.ensures.value) c.in_ok-moves.ensures.ordered in
    subst (AreNearBeside (label_on course) (IsSureOn course) (IsTakenOn course) c.args.from) (sym c.into_arrivals.ensures)
    (are_near (label_on course) c.args.from trail.known.keys trail.arrivals.items made.trail (IsSureOn course) (IsTakenOn course) (holds_on course)
    made.level (λ sure. made.followed (c.is_sure-are_sure.ensures ∙ sure))
    (λ sure.
    near_shortest (label_on course) from trail.known.keys trail.arrivals.items made.trail requests order first
    (lead_on course from requests (c.requires.openings from sure) lead)))
