use Rattle.std.proofs.Common.{◌≡◌}
use Rattle.aa_pool.proofs.feed.Feed.burst.Given as goal

abbrev pub invariant-turns : goal.invariant-turns
invariant-turns g l = (l.self.lane ≡ l.fn.self.lane) × (l.self.all ≡ l.fn.self.all)
