use Rattle.std.proofs.Common.{◌≡◌, ◌≤◌, length, arith, subst}
use Rattle.aa_reachability.specs.Course.{label_on, IsSureOn}
use Rattle.aa_reachability.specs.Trail.{AreFollowed}
use Rattle.aa_reachability.proofs.Reaching.{few_arrivals}
use Rattle.aa_reachability.proofs.Searching.{first_followed}
use Rattle.aa_reachability.proofs.search.found_from.Goals as goal

pub loop-number-init : goal.loop-number-init
loop-number-init c =
    let trail = c.in_ok-trail.trail in
    let made = c.in_ok-trail.ensures in
    let course = c.args.course in
    record {
      trail = made.trail;
      level = made.level;
      followed = first_followed (label_on course) (IsSureOn course) course.only_clean course.going.policies.now c.args.from trail.known.keys c.args.limit
          trail.arrivals.items c.new-untold.result.items made.trail made.one c.new-untold.ensures.items;
      within = omega (arith, made.one);
    }

pub loop-number-preserved : goal.loop-number-preserved
loop-number-preserved c =
    let made = c.in_ok-follow_next.ensures in
    record { trail = made.trail; level = made.level; followed = made.followed; within = made.followed.within }

pub returns-then-number-len-clause-followed : goal.returns-then-number-len-clause-followed
returns-then-number-len-clause-followed c =
    let trail = c.loop-number.trail in
    let e : c.loop-number.number ≡ length trail.arrivals.items = omega (arith, c.if-number-len.true, c.len.ensures) in
    subst (λ n. AreFollowed (label_on c.args.course) (IsSureOn c.args.course) c.args.course.only_clean c.args.course.going.policies.now c.args.limit trail.arrivals.items c.loop-number.untold.items n) e c.loop-number.invariant.followed

pub returns-clause-followed : goal.returns-clause-followed
returns-clause-followed c =
    let trail = c.loop-number.trail in
    let few = few_arrivals (label_on c.args.course) c.args.from trail.known.keys trail.arrivals.items c.loop-number.invariant.trail in
    let e : c.loop-number.number ≡ length trail.arrivals.items = omega (arith, few, c.loop-number-test.false, c.loop-number.invariant.within) in
    subst (λ n. AreFollowed (label_on c.args.course) (IsSureOn c.args.course) c.args.course.only_clean c.args.course.going.policies.now c.args.limit trail.arrivals.items c.loop-number.untold.items n) e c.loop-number.invariant.followed
