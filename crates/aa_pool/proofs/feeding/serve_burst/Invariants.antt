use Rattle.std.proofs.Common.{◌≡◌}
use Rattle.aa_pool.proofs.feeding.serve_burst.Given as goal

abbrev pub invariant-requests : goal.invariant-requests
invariant-requests g l = l.server.lane ≡ l.fn.server.lane
