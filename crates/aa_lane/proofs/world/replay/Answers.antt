use Rattle.aa_lane.proofs.WorldStates.{Replayed-more}
use Rattle.aa_lane.proofs.world.replay.Goals as goal

pub loop-replies-preserved : goal.loop-replies-preserved
loop-replies-preserved g c =
    rw (c.in-Ok.ensures.after, c.push_reserved.ensures.items, c.reserve.ensures.items, c.in-Ok.ensures.reply)
    (Replayed-more g.M.Machine.next g.M.Machine.reply _ _ _ _ c.in-Some.event _ _ (rw c.in-Some.ensures.items at c.loop-replies.invariant))
