use Rattle.std.proofs.Common.{◌≡◌}
use Rattle.aa_lane.specs.Ends.{known}
use Rattle.aa_lane_tests.proofs.feeding.feed.Given as goal

abbrev pub invariant-feeding : goal.invariant-feeding
invariant-feeding g l = l.owner.lane ≡ known l.lane
