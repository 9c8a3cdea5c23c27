use Rattle.std.proofs.Common.{◌≡◌, ◌<◌, false}
use Rattle.aa_lane.specs.Ends.{known}
use Rattle.aa_pool.proofs.lane_server.LaneServerServing.serve.Given as goal

abbrev pub invariant-requests : goal.invariant-requests
invariant-requests g l = record { lane : l.lane ≡ l.fn.self.lane.now; of : l.server.lane ≡ known l.lane; busy : 0 < l.counter → l.server.settled ≡ false }
