use Rattle.std.proofs.Common.{◌≡◌, ◌+◌, List, length, sym, subst, arith}
use Rattle.aa_model.specs.declared.request.Request.{Request}
use Rattle.aa_representatives.proofs.Linking.{elements_more}
use Rattle.aa_reachability.specs.declared.trail.Arrival.{Arrival}
use Rattle.aa_reachability.specs.Course.{label_on}
use Rattle.aa_reachability.specs.Trail.{arrival_at, IsWithin}
use Rattle.aa_reachability.proofs.Reaching.{extends_at, extends_on, within_on}
use Rattle.aa_reachability.proofs.Firsts.{first_more}
use Rattle.aa_reachability.proofs.search.follow_each.Goals as goal

pub loop-request-preserved : goal.loop-request-preserved
loop-request-preserved c =
    let go = label_on c.args.course in
    let first = c.args.trail.now.arrivals.items in
    let was = c.loop-request.trail.arrivals.items in
    let now = c.follow.new.self.arrivals.items in
    let n = c.args.number in
    let inv = c.loop-request.invariant in
    let made = c.in_ok-follow.ensures in
    let many = (arrival_at first n).length + 1 in
    let same : arrival_at was n ≡ arrival_at first n = extends_at first was inv.extends n c.requires.within in
    let Leads : List Arrival → Request → Type 0 = λ arrivals r. IsWithin arrivals (go (arrival_at first n).label r) many in
    record {
      trail = made.trail;
      level = made.level;
      extends = extends_on n first was now inv.extends made.extends;
      behind = elements_more c.args.requests.now c.loop-request.request-index c.request-item.result (Leads was)
          (Leads now) c.loop-request-test.true c.request-item.is
          (λ r. within_on was now made.extends (go (arrival_at first n).label r) many)
          (subst (λ (x : Arrival). IsWithin now (go x.label c.request-item.result) (x.length + 1)) same made.reached) inv.behind;
      first = first_more go (arrival_at first n).label c.args.requests.now (length first) n many was now c.args.from c.follow.new.self.known.keys
          made.trail made.extends c.loop-request.request-index c.request-item.result c.loop-request-test.true c.request-item.is inv.behind inv.first made.added;
    }

pub returns-clause-followed : goal.returns-clause-followed
returns-clause-followed c = λ r among.
    let first = c.args.trail.now.arrivals.items in
    let now = c.loop-request.trail.arrivals.items in
    let same : arrival_at now c.args.number ≡ arrival_at first c.args.number = extends_at first now c.loop-request.invariant.extends c.args.number c.requires.within in
    subst (λ (x : Arrival). IsWithin now (label_on c.args.course x.label r) (x.length + 1)) (sym same)
    (c.loop-request.invariant.behind among.0 r (omega (arith, among.1, c.loop-request-test.false)) among.2)
