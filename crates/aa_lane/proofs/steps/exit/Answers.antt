use Rattle.std.proofs.Common.{arith}
use Rattle.aa_lane.proofs.Shuts.{exits_step}
use Rattle.aa_lane.proofs.steps.exit.Goals as goal

pub fetch_or-requires : goal.fetch_or-requires
fetch_or-requires g c = (
  c.requires.table,
  rw (← c.requires.table, c.requires.ready.1) (omega arith),
  exits_step g.M.Machine.next g.M.Machine.reply c.args.shared.now.key c.args.shared.now.table_id.slots c.args.seat.now.id c.args.seat.now.me c.requires.ready.0,
)
