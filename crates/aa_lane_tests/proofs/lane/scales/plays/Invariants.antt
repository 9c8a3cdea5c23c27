use Rattle.std.proofs.Common.{◌≡◌}
use Rattle.aa_lane_tests.proofs.lane.scales.plays.Given as goal

abbrev pub invariant-loop-row : goal.invariant-loop-row
invariant-loop-row g l = l.bench.lane ≡ l.initial.bench.lane
