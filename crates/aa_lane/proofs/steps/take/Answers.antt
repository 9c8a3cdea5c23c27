use Rattle.std.proofs.Common.{◌≡◌, ◌/◌, ◌%◌, ◌∙◌, ap, sym, arith, lt-ltb}
use Rattle.atomic_table.specs.Seated.{TableId}
use Rattle.aa_lane.proofs.Asks.{can_take, took_one}
use Rattle.aa_lane.proofs.steps.take.Goals as goal

pub load-gate-requires : goal.load-gate-requires
load-gate-requires g c = (
  c.requires.table,
  rw (← c.requires.table, c.requires.ready.words) (omega arith),
  can_take g.M.Machine.next g.M.Machine.reply c.args.shared.now.key c.args.seat.now.table_id c.args.shared.now.table_id c.args.seat.now.id c.args.done c.args.slot c.args.seat.now.me c.requires.ready c.requires.table,
)

pub exchange-requires : goal.exchange-requires
exchange-requires g c =
    let f = c.load-gate.ensures in
    let d = c.requires.ready.done in
    let slot : c.args.slot ≡ c.args.seat.now.me.0.server.done % c.args.shared.now.table_id.slots = c.requires.ready.slot_is
    ∙ ap (λ (y : TableId). c.args.done % y.slots) c.requires.table ∙ ap (λ i. i % c.args.shared.now.table_id.slots) (sym d) in (
      f.0 ∙ c.requires.table,
      took_one g.M.Machine.next g.M.Machine.reply c.args.shared.now.key _ _ _ c.args.slot _ c.args.seat.now.me c.load-gate.new.seat.me
          (lt-ltb c.args.seat.now.me.0.server.done (c.load-gate.result / 2) (omega arith)) slot f.2.0,
    )
