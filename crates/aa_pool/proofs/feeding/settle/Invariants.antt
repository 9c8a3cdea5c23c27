use Rattle.std.proofs.Common.{◌≡◌}
use Rattle.aa_pool.proofs.feeding.settle.Given as goal

abbrev pub invariant-serving : goal.invariant-serving
invariant-serving g l = l.server.lane ≡ l.fn.server.lane
