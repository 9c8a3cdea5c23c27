use Rattle.std.proofs.Common.{◌≡◌, ◌≤◌, map, take, length, vec_len, vec_capacity}
use Rattle.aa_pool.proofs.tasks.starts_of.Given as goal

abbrev pub invariant-loop-task : goal.invariant-loop-task
invariant-loop-task g l = record {
  starts : l.starts.items ≡ map (λ t. t.start) (take l.task-index l.tasks);
  len : vec_len l.starts ≡ l.task-index;
  room : length l.tasks ≤ vec_capacity l.starts;
}
