use Rattle.std.proofs.Common.{ap}
use Rattle.aa_lane.specs.Ends.{LaneSeen, OwnerSeen}
use Rattle.aa_lane.proofs.Owners.{owner_collected}
use Rattle.aa_lane.proofs.Slots.{slots_of}
use Rattle.aa_lane.proofs.lane.Sending.collect.Goals as goal

pub invariant_of-self : goal.invariant_of-self
invariant_of-self g c =
    let own = ap (λ (o : OwnerSeen g.row.M.Denot g.row.M-State.Denot g.row.M-Request.Denot g.row.M-Answer.Denot). o.lane.table) c.self.view_is in
    let its = ap (λ (l : LaneSeen g.row.M.Denot g.row.M-State.Denot). l.table) c.lane.view_is in
    let slots = slots_of c.self.inside.seat.table_id _ _ c.args.lane.now _ own c.requires its c.lane.invariant.2 in
    let e = rw c.in-Some.is at c.collect-found.ensures.collected in
    rw (c.collect-found.ensures.table.0, e.2, slots) (owner_collected _ _ _ _ _ _ c.in-Some.request _ c.self.invariant e.1.request)
