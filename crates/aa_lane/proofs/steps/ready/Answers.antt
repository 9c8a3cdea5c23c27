use Rattle.std.proofs.Common.{arith}
use Rattle.aa_lane.proofs.Asks.{can_ready}
use Rattle.aa_lane.proofs.steps.ready.Goals as goal

pub load-requires : goal.load-requires
load-requires g c = (
  c.requires.table,
  rw (← c.requires.table, c.requires.ready.words) (omega arith),
  can_ready g.M.Machine.next g.M.Machine.reply c.args.shared.now.key c.args.seat.now.table_id c.args.shared.now.table_id c.args.seat.now.id c.args.seat.now.me c.requires.ready c.requires.table,
)
