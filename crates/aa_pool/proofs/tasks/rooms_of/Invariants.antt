use Rattle.std.proofs.Common.{◌≡◌, ◌≤◌, take, length, vec_len, vec_capacity}
use Rattle.aa_pool.specs.Answers.{AreRooms}
use Rattle.aa_pool.proofs.tasks.rooms_of.Given as goal

abbrev pub invariant-loop-task : goal.invariant-loop-task
invariant-loop-task g l = record {
  rooms : AreRooms (take l.task-index l.tasks) l.rooms.items;
  len : vec_len l.rooms ≡ l.task-index;
  room : length l.tasks ≤ vec_capacity l.rooms;
}
