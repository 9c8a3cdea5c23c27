use Rattle.std.proofs.Common.{◌≡◌, ◌%◌, ◌∙◌, ap, sym, arith, lt-ltb}
use Rattle.atomic_table.specs.Seated.{TableId}
use Rattle.aa_lane.proofs.Asks.{can_collect, collected_one}
use Rattle.aa_lane.proofs.steps.collect.Goals as goal

pub load-found-requires : goal.load-found-requires
load-found-requires g c = (
  c.requires.table,
  rw (← c.requires.table, c.requires.ready.words) (omega arith),
  can_collect g.M.Machine.next g.M.Machine.reply c.args.shared.now.key c.args.seat.now.table_id c.args.shared.now.table_id c.args.seat.now.id c.args.got c.args.slot c.args.seat.now.me c.requires.ready c.requires.table,
)

pub exchange-requires : goal.exchange-requires
exchange-requires g c =
    let f = c.load-found.ensures in
    let d = c.requires.ready.got in
    let slot : c.args.slot ≡ c.args.seat.now.me.0.owner.got % c.args.shared.now.table_id.slots = c.requires.ready.slot_is
    ∙ ap (λ (y : TableId). c.args.got % y.slots) c.requires.table ∙ ap (λ i. i % c.args.shared.now.table_id.slots) (sym d) in (
      f.0 ∙ c.requires.table,
      collected_one g.M.Machine.next g.M.Machine.reply c.args.shared.now.key _ _ _ c.args.slot c.args.seat.now.me c.load-found.new.seat.me
          (lt-ltb c.args.seat.now.me.0.owner.got c.load-found.result (omega arith)) slot f.2,
    )
