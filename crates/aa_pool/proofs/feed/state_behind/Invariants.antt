use Rattle.std.proofs.Common.{◌≡◌, map, take}
use Rattle.aa_machine.specs.Run.{state_after}
use Rattle.aa_pool.proofs.feed.state_behind.Given as goal

abbrev pub invariant-loop-given : goal.invariant-loop-given
invariant-loop-given g l = l.state ≡ state_after (g.M.Machine.next l.machine) (g.M.Machine.reply l.machine) l.fn.start (map (λ a. a.request) (take l.given-index l.answered))
