use Rattle.std.proofs.Common.{◌≡◌}
use Rattle.aa_pool.proofs.feeding.alone.Given as goal

abbrev pub invariant-bursts : goal.invariant-bursts
invariant-bursts g l = (l.server.lane ≡ l.fn.server.lane) × (l.feed.lane ≡ l.fn.feed.lane) × (l.feed.all ≡ l.fn.feed.all)
