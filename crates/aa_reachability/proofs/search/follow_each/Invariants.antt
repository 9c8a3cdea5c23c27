use Rattle.std.proofs.Common.{◌≡◌, ℕ, ◌+◌, ◌<◌, length, get_or}
use Rattle.aa_model.specs.declared.request.Request.{Request}
use Rattle.aa_reachability.specs.Course.{label_on}
use Rattle.aa_reachability.specs.Trail.{arrival_at, IsTrail, IsLevel, IsWithin, Extends, AreFirst}
use Rattle.aa_reachability.proofs.search.follow_each.Given as goal

abbrev pub invariant-loop-request : goal.invariant-loop-request
invariant-loop-request l = record {
  trail : IsTrail (label_on l.course) l.from l.trail.known.keys l.trail.arrivals.items;
  level : IsLevel l.trail.arrivals.items l.number;
  extends : Extends l.number l.fn.trail.arrivals.items l.trail.arrivals.items;
  behind : (k : ℕ) (r : Request) → k < l.request-index → get_or l.requests k r ≡ r
      → IsWithin l.trail.arrivals.items (label_on l.course (arrival_at l.fn.trail.arrivals.items l.number).label r)
      ((arrival_at l.fn.trail.arrivals.items l.number).length + 1);
  first : AreFirst (label_on l.course) (arrival_at l.fn.trail.arrivals.items l.number).label l.requests (length l.fn.trail.arrivals.items)
      l.trail.arrivals.items;
}
