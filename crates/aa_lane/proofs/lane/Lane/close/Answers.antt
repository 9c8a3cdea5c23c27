use Rattle.std.proofs.Common.{sym, ap, ◌∙◌}
use Rattle.aa_lane.specs.Ends.{LaneSeen, OwnerSeen}
use Rattle.aa_lane.proofs.Closing.{tells}
use Rattle.aa_lane.proofs.lane.Lane.close.Goals as goal

pub returns : goal.returns
returns g c =
    let machine = sym (ap (λ (l : LaneSeen g.row.M.Denot g.row.M-State.Denot). l.machine) c.self.view_is) ∙ sym c.self.invariant.0 in
    let start = sym (ap (λ (l : LaneSeen g.row.M.Denot g.row.M-State.Denot). l.start) c.self.view_is) in
    let capacity = sym (ap (λ (l : LaneSeen g.row.M.Denot g.row.M-State.Denot). l.table.slots) c.self.view_is) ∙ c.self.invariant.2 ∙ sym c.self.invariant.1 in
    let left = ap (λ (o : OwnerSeen g.row.M.Denot g.row.M-State.Denot g.row.M-Request.Denot g.row.M-Answer.Denot). o.left) c.end.view_is ∙ c.owner.invariant in
    let o = c.end.invariant in
    let s = c.server.invariant in
    tells g.M.Machine.next g.M.Machine.reply c.self.inside.table.shared.key c.end.inside.seat.me.0 c.server.inside.seat.me.0 c.shutter.inside.seat.me.0 c.args.self c.args.ends _ _ _ _ _ _ _
    c.close.ensures machine start capacity (sym (c.end.view_is ∙ c.owner.view_is)) (sym c.server.view_is) (sym c.shutter.view_is) c.requires.0 c.requires.1
    o.owns left (s.idle ∙ sym s.done_is) o.sent_is (sym s.done_is) o.got_is s.state_is
