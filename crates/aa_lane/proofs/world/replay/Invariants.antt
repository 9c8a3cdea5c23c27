use Rattle.std.proofs.Common.{length}
use Rattle.aa_lane.specs.WorldState.{Replayed}
use Rattle.aa_lane.proofs.world.replay.Given as goal

abbrev pub invariant-loop-replies : goal.invariant-loop-replies
invariant-loop-replies g l = Replayed g.M.Machine.next g.M.Machine.reply l.initial.world l.initial.events.items l.initial.replies.items l.world l.events.items l.replies.items

abbrev pub decreases-loop-replies : goal.decreases-loop-replies
decreases-loop-replies g l = length l.events.items
