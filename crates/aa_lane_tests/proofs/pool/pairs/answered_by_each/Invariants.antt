use Rattle.std.proofs.Common.{◌≡◌, map}
use Rattle.aa_lane.specs.Ends.{known}
use Rattle.aa_lane_tests.proofs.pool.pairs.answered_by_each.Given as goal

abbrev pub invariant-loop-i : goal.invariant-loop-i
invariant-loop-i l = map (λ o. o.lane) l.owners ≡ map known l.lanes
