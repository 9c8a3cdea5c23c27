use Rattle.std.proofs.Common.{◌≡◌, ◌≤◌, ◌+◌, ◌++◌, length, map, drop, vec_len, vec_capacity}
use Rattle.aa_lane.specs.Ends.{known}
use Rattle.aa_pool.proofs.feeding.settle_all.Given as goal

abbrev pub invariant-loop-server : goal.invariant-loop-server
invariant-loop-server g l = record {
  rest : map (λ s. s.lane) l.server-iterator.rest.items ≡ map known (drop l.at l.lanes);
  at : l.at ≤ length l.lanes;
  all : map (λ s. s.lane) l.settled.items ++ map (λ s. s.lane) l.server-iterator.rest.items ≡ map known l.lanes;
  room : vec_len l.settled + length l.server-iterator.rest.items ≤ vec_capacity l.settled;
}
