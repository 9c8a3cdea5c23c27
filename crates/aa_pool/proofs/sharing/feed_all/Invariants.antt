use Rattle.std.proofs.Common.{◌<◌}
use Rattle.aa_pool.proofs.sharing.feed_all.Given as goal

abbrev pub invariant-feeding : goal.invariant-feeding
invariant-feeding g l = 0 < l.mine.parts
