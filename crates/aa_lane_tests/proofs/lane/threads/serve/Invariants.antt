use Rattle.std.proofs.Common.{◌≡◌}
use Rattle.aa_lane.specs.Ends.{known}
use Rattle.aa_lane_tests.proofs.lane.threads.serve.Given as goal

abbrev pub invariant-serving : goal.invariant-serving
invariant-serving g l = l.server.lane ≡ known l.lane
