use Rattle.std.proofs.Common.{◌≡◌}
use Rattle.aa_lane_tests.proofs.lane.lanes.rounds.Given as goal

abbrev pub invariant-loop-count : goal.invariant-loop-count
invariant-loop-count g l = l.bench.lane ≡ l.initial.bench.lane
