use Rattle.std.proofs.Common.{◌≡◌, Some, ap, ◌∙◌}
use Rattle.aa_lane.specs.Ends.{LaneId, LaneSeen, BusySeen}
use Rattle.aa_lane.proofs.Servers.{server_finished, busy_can_finish}
use Rattle.aa_lane.proofs.Slots.{slots_of}
use Rattle.aa_lane.proofs.lane.Busy.finish.Goals as goal

pub finish-requires-clause-ready : goal.finish-requires-clause-ready
finish-requires-clause-ready g c =
    let its : c.lane.inside.machine.now ≡ c.args.lane.now.machine = ap (λ (l : LaneSeen g.row.M.Denot g.row.M-State.Denot). l.machine) c.lane.view_is in
    let own : c.self.inside.seat.me.0.terms ≡ c.args.self.server.lane.terms = ap (λ (b : BusySeen g.row.M.Denot g.row.M-State.Denot g.row.M-Request.Denot g.row.M-Answer.Denot). b.server.lane.terms) c.self.view_is in
    let one : c.args.self.server.lane.terms ≡ Some (c.args.lane.now.machine, c.args.lane.now.start) = ap (λ (l : LaneId g.row.M.Denot g.row.M-State.Denot). l.terms) c.requires in
    let z = ap (λ (b : BusySeen g.row.M.Denot g.row.M-State.Denot g.row.M-Request.Denot g.row.M-Answer.Denot). b.server.lane.table) c.self.view_is in
    let y = ap (λ (l : LaneSeen g.row.M.Denot g.row.M-State.Denot). l.table) c.lane.view_is in
    let slots = slots_of c.self.inside.seat.table_id _ _ c.args.lane.now _ z c.requires y c.lane.invariant.2 in
    rw (c.step-answer.ensures.answer, its, slots) (busy_can_finish g.M.Machine.next g.M.Machine.reply _ _ _ _ _ c.self.inside.request c.args.lane.now.machine c.args.lane.now.start (own ∙ one) c.self.invariant)

pub invariant_of-result : goal.invariant_of-result
invariant_of-result g c =
    let e = c.finish.ensures in
    let its : c.lane.inside.machine.now ≡ c.args.lane.now.machine = ap (λ (l : LaneSeen g.row.M.Denot g.row.M-State.Denot). l.machine) c.lane.view_is in
    let own : c.self.inside.seat.me.0.terms ≡ c.args.self.server.lane.terms = ap (λ (b : BusySeen g.row.M.Denot g.row.M-State.Denot g.row.M-Request.Denot g.row.M-Answer.Denot). b.server.lane.terms) c.self.view_is in
    let one : c.args.self.server.lane.terms ≡ Some (c.args.lane.now.machine, c.args.lane.now.start) = ap (λ (l : LaneId g.row.M.Denot g.row.M-State.Denot). l.terms) c.requires in
    rw (e.table.0, e.done, c.step-answer.ensures.state, its) (server_finished g.M.Machine.next g.M.Machine.reply _ _ _ _ _ c.self.inside.request c.args.lane.now.machine c.args.lane.now.start _ (own ∙ one) c.self.invariant)
