use Rattle.std.proofs.Common.{◌∙◌, arith}
use Rattle.aa_lane.proofs.Asks.{can_finish}
use Rattle.aa_lane.proofs.steps.finish.Goals as goal

pub store-requires : goal.store-requires
store-requires g c =
    let e = c.exchange.ensures in (
      e.0 ∙ c.requires.table,
      rw (← c.requires.table, c.requires.ready.words) (omega arith),
      rw e.3 (can_finish g.M.Machine.next g.M.Machine.reply c.args.shared.now.key c.args.seat.now.table_id c.args.shared.now.table_id c.exchange.new.seat.id
          c.args.done c.args.slot c.args.seat.now.me c.args.request c.args.answer c.requires.ready c.requires.table),
    )
