use Rattle.std.proofs.Common.{◌≤◌, length}
use Rattle.aa_reachability.specs.Course.{label_on, IsSureOn}
use Rattle.aa_reachability.specs.Trail.{IsTrail, IsLevel, AreFollowed}
use Rattle.aa_reachability.proofs.search.found_from.Given as goal

abbrev pub invariant-loop-number : goal.invariant-loop-number
invariant-loop-number l = record {
  trail : IsTrail (label_on l.course) l.from l.trail.known.keys l.trail.arrivals.items;
  level : IsLevel l.trail.arrivals.items l.number;
  followed : AreFollowed (label_on l.course) (IsSureOn l.course) l.course.only_clean l.course.going.policies.now l.limit l.trail.arrivals.items l.untold.items l.number;
  within : l.number ≤ length l.trail.arrivals.items;
}
