use Rattle.std.proofs.Common.{◌≡◌, arith, ◌∙◌, true}
use Rattle.aa_lane.proofs.Opens.{joins_server, joins_shutter}
use Rattle.aa_lane.proofs.Closing.{last_of}
use Rattle.aa_lane.proofs.steps.close.Goals as goal

pub join_seat-requires : goal.join_seat-requires
join_seat-requires g c =
    let t = c.requires.tables in (
      t.0,
      t.1,
      c.requires.held.0,
      rw c.requires.words (omega arith),
      joins_server g.M.Machine.next g.M.Machine.reply _ c.args.owner.id c.args.owner.me.0 c.args.server.id c.args.server.me.0 c.requires.roles.0 c.requires.roles.1 (c.requires.alone.0, c.requires.alone.1),
    )

pub join_seat-requires-2 : goal.join_seat-requires-2
join_seat-requires-2 g c =
    let t = c.requires.tables in
    let e = c.join_seat.ensures in
    let owns : c.join_seat.new.seat.me.0.owns ≡ true = rw e.2 c.requires.roles.0 in (
      e.0 ∙ t.0,
      t.2,
      c.requires.held.1,
      rw c.requires.words (omega arith),
      joins_shutter g.M.Machine.next g.M.Machine.reply _ c.join_seat.new.seat.id c.join_seat.new.seat.me.0 c.args.shutter.id c.args.shutter.me.0 owns c.requires.roles.2 (c.requires.alone.2, c.requires.alone.3),
    )

pub returns : goal.returns
returns g c =
    let e = c.join_seat.ensures in
    let d = c.join_seat-2.ensures in
    let last = last_of g.M.Machine.next g.M.Machine.reply _ _ _ _ _ c.close_with.ensures.values.2 in
    rw (d.2, e.2) at last
