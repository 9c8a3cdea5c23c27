use Rattle.std.proofs.Common.{◌≡◌, ◌+◌, ◌++◌, map, take, length, Some}
use Rattle.aa_engine.specs.Answers.{task_label}
use Rattle.aa_engine.proofs.deciding.askings_of.Given as goal

abbrev pub invariant-loop-requests : goal.invariant-loop-requests
invariant-loop-requests g l = record {
  labels : map (λ a. Some a.start) l.askings.items ≡ map (task_label l.policies) (take l.at l.tasks);
  requests : map (λ a. a.requests.items) l.askings.items ++ map (λ q. q.items) l.requests-iterator.rest.items ≡ map (λ q. q.items) l.fn.rows.items;
  left : l.at + length l.requests-iterator.rest.items ≡ length l.tasks;
}
