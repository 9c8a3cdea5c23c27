use Rattle.std.proofs.Common.{refl, get_or, length, ◌<◌, arith}
use Rattle.std.proofs.Math.ListN.{set}
use Rattle.aa_auto.proofs.JumpLemmas.{lists, length_lists, rows_more, row_pushed}
use Rattle.aa_auto.proofs.jumps.add_to_rows.Goals as goal

pub loop-position-preserved : goal.loop-position-preserved
loop-position-preserved c =
    let at = get_or c.args.positions.now c.loop-position.position-index 0 in
    let lt : get_or c.args.positions.now c.loop-position.position-index 0 < length c.loop-position.rows.items =
    omega (arith, c.requires c.loop-position.position-index 0 c.loop-position-test.true, c.loop-position.invariant.many, length_lists c.args.rows.now.items, length_lists c.loop-position.rows.items) in
    rows_more (lists c.args.rows.now.items) (lists c.loop-position.rows.items) (lists (set c.loop-position.rows.items at c.push.new.self)) c.args.positions.now c.args.number c.loop-position.position-index at
    c.loop-position-test.true refl c.loop-position.invariant
    (row_pushed c.loop-position.rows.items at c.args.number c.index_mut.result.now c.push.new.self lt c.index_mut.ensures.value c.in_ok-push.ensures.items)
