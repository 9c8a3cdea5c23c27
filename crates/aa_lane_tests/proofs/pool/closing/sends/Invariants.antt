use Rattle.std.proofs.Common.{◌≡◌}
use Rattle.aa_lane_tests.proofs.pool.closing.sends.Given as goal

abbrev pub invariant-loop-request : goal.invariant-loop-request
invariant-loop-request l = l.owner.lane ≡ l.fn.owner.lane
