use Rattle.std.proofs.Common.{◌≡◌}
use Rattle.aa_lane_tests.proofs.lane.lanes.sends.Given as goal

abbrev pub invariant-loop-i : goal.invariant-loop-i
invariant-loop-i g l = l.bench.lane ≡ l.initial.bench.lane
