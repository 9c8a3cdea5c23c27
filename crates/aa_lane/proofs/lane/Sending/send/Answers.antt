use Rattle.std.proofs.Common.{◌≡◌, ap, ◌∙◌}
use Rattle.aa_lane.specs.Ends.{LaneSeen, OwnerSeen}
use Rattle.aa_lane.proofs.Owners.{owner_can_send, owner_sent}
use Rattle.aa_lane.proofs.Slots.{slots_of}
use Rattle.aa_lane.proofs.lane.Sending.send.Goals as goal

pub send-requires-clause-ready : goal.send-requires-clause-ready
send-requires-clause-ready g c =
    let own = ap (λ (o : OwnerSeen g.row.M.Denot g.row.M-State.Denot g.row.M-Request.Denot g.row.M-Answer.Denot). o.lane.table) c.self.view_is in
    let its = ap (λ (l : LaneSeen g.row.M.Denot g.row.M-State.Denot). l.table) c.lane.view_is in
    let slots = slots_of c.self.inside.seat.table_id _ _ c.args.lane.now _ own c.requires.lane its c.lane.invariant.2 in
    let stays = ap (λ (o : OwnerSeen g.row.M.Denot g.row.M-State.Denot g.row.M-Request.Denot g.row.M-Answer.Denot). o.left) c.self.view_is ∙ c.requires.stays in
    let room = rw slots at c.if-self-lane.false in
    rw slots (owner_can_send _ _ _ _ _ c.self.invariant stays c.if-self-eq-MOST_ACCEPTED.false room)

pub invariant_of-self : goal.invariant_of-self
invariant_of-self g c =
    let own = ap (λ (o : OwnerSeen g.row.M.Denot g.row.M-State.Denot g.row.M-Request.Denot g.row.M-Answer.Denot). o.lane.table) c.self.view_is in
    let its = ap (λ (l : LaneSeen g.row.M.Denot g.row.M-State.Denot). l.table) c.lane.view_is in
    let slots = slots_of c.self.inside.seat.table_id _ _ c.args.lane.now _ own c.requires.lane its c.lane.invariant.2 in
    let room = rw slots at c.if-self-lane.false in
    rw (c.in-Ok.ensures.table.0, c.in-Ok.ensures.sent) (owner_sent _ _ _ _ _ c.args.request _ c.self.invariant c.if-self-eq-MOST_ACCEPTED.false room)
