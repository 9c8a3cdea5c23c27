use Rattle.std.proofs.Common.{◌≡◌}
use Rattle.aa_lane_tests.proofs.lane.lanes.repeats.Given as goal

abbrev pub invariant-loop : goal.invariant-loop
invariant-loop g l = l.bench.lane ≡ l.initial.bench.lane
