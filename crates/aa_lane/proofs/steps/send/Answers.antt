use Rattle.std.proofs.Common.{◌∷◌, ◌∙◌, arith, refl, ne_eqb}
use Rattle.atomic_table.specs.Table.{rest}
use Rattle.aa_lane.specs.declared.cells.Cell.TheVariants.{Asked}
use Rattle.aa_lane.proofs.Sends.{can_send, not_sent}
use Rattle.aa_lane.proofs.steps.send.Goals as goal

pub compare_exchange-found-requires : goal.compare_exchange-found-requires
compare_exchange-found-requires g c =
    let e = c.exchange.ensures in (
      e.0 ∙ c.requires.table,
      rw (← c.requires.table, c.requires.ready.words) (omega arith),
      rw e.3 (can_send g.M.Machine.next g.M.Machine.reply c.args.shared.now.key c.args.seat.now.table_id c.args.shared.now.table_id c.exchange.new.seat.id
          c.args.number c.args.slot c.args.seat.now.me c.args.request c.requires.ready c.requires.table),
    )

pub exchange-requires-2 : goal.exchange-requires-2
exchange-requires-2 g c =
    let e = c.exchange.ensures in
    let f = c.compare_exchange-found.ensures in
    let told = rw e.3 at f.2.0 in
    let was = not_sent g.M.Machine.next g.M.Machine.reply c.args.shared.now.key _ _ c.args.slot c.args.request (rest c.args.seat.now.me.1)
    (c.args.seat.now.me.0, (c.args.slot, Asked c.args.request) ∷ rest c.args.seat.now.me.1) c.compare_exchange-found.new.seat.me
    (ne_eqb _ _ c.if-found-number.false) told in
    (f.0 ∙ e.0 ∙ c.requires.table, (Asked c.args.request, rw was refl))
