use Rattle.std.proofs.Common.{◌≡◌, ◌++◌, ◌+◌, ◌≤◌, map, vec_len, vec_capacity}
use Rattle.std.specs.VecDeque.{deque_len}
use Rattle.aa_machine.specs.Run.{state_after}
use Rattle.aa_lane.specs.Answers.{answered_from}
use Rattle.aa_pool.proofs.feed.decide_rest.Given as goal

abbrev pub invariant-left : goal.invariant-left
invariant-left g l = record {
  right : l.answered.items ≡ answered_from g.M.Machine.next g.M.Machine.reply l.machine 0 l.fn.start (map (λ a. a.request) l.answered.items);
  all : map (λ a. a.request) l.answered.items ++ l.left.items ≡ map (λ a. a.request) l.fn.answered.items ++ l.fn.left.items;
  state : l.state ≡ state_after (g.M.Machine.next l.machine) (g.M.Machine.reply l.machine) l.fn.start (map (λ a. a.request) l.answered.items);
  room : vec_len l.answered + deque_len l.left ≤ vec_capacity l.answered;
}

abbrev pub decreases-left : goal.decreases-left
decreases-left g l = deque_len l.left
