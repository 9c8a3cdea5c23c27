use Rattle.std.proofs.Common.{◌≡◌, ◌≤◌, ◌<◌, ◌+◌, ◌++◌, ℕ, true, length, map, drop, vec_len, vec_capacity, slice_index_or}
use Rattle.aa_lane.specs.Ends.{known}
use Rattle.aa_pool.specs.Fed.{AreSame}
use Rattle.aa_pool.proofs.feeding.feed_here.Given as goal

abbrev pub invariant-loop-server : goal.invariant-loop-server
invariant-loop-server g l = record {
  rest : map (λ s. s.lane) l.server-iterator.rest.items ≡ map known (drop l.at l.lanes);
  all : map (λ s. s.lane) l.served.items ++ map (λ s. s.lane) l.server-iterator.rest.items ≡ map known l.lanes;
  room : vec_len l.served + length l.server-iterator.rest.items ≤ vec_capacity l.served;
  at : l.at ≤ length l.lanes;
  same : AreSame l.fn.feeds l.feeds;
  finished : (k : ℕ) (d : _) → k < l.at → (slice_index_or l.feeds k d).finished ≡ true;
}
