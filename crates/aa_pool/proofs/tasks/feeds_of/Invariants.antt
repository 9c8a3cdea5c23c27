use Rattle.std.proofs.Common.{◌≡◌, ◌≤◌, ◌++◌, map, length, take, drop, vec_len, vec_capacity}
use Rattle.aa_lane.specs.Ends.{new_owner}
use Rattle.aa_pool.specs.Answers.{AreRooms}
use Rattle.aa_pool.proofs.tasks.feeds_of.Given as goal

abbrev pub invariant-loop-task : goal.invariant-loop-task
invariant-loop-task g l = record {
  owners : l.owners.rest.items ≡ map new_owner (drop l.at l.lanes);
  starts : map (λ t. t.start) l.task-iterator.rest.items ≡ map (λ a. a.start) (drop l.at l.lanes);
  rooms : AreRooms l.task-iterator.rest.items l.rooms.rest.items;
  at : l.at ≤ length l.lanes;
  lanes : map (λ f. f.lane) l.feeds.items ≡ take l.at l.lanes;
  requests : map (λ f. f.all) l.feeds.items ++ map (λ t. t.requests.items) l.task-iterator.rest.items ≡ map (λ t. t.requests.items) l.fn.tasks.items;
  room : (vec_len l.feeds ≡ l.at) × (length l.lanes ≤ vec_capacity l.feeds);
}
