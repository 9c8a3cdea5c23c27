use Rattle.std.proofs.Common.{length}
use Rattle.aapolicy_tests.proofs.tree.+planted_at.Given as goal

abbrev pub decreases-planted_at : goal.decreases-planted_at
decreases-planted_at l = length l.planted.now
