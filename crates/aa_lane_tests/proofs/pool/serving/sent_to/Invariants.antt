use Rattle.std.proofs.Common.{◌≡◌, map}
use Rattle.aa_lane.specs.Ends.{known}
use Rattle.aa_lane_tests.proofs.pool.serving.sent_to.Given as goal

abbrev pub invariant-loop-request : goal.invariant-loop-request
invariant-loop-request l = map (λ o. o.lane) l.owners ≡ map known l.lanes
