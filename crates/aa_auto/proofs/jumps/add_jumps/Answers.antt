use Rattle.std.proofs.Common.{arith, subst, ◌-◌, ◌<◌}
use Rattle.aa_auto.proofs.MoveLemmas.{on_ok}
use Rattle.aa_auto.proofs.JumpLemmas.{lists, jumps_same, jumps_join, jumps_skip}
use Rattle.aa_auto.specs.Nodes.{HasSources}
use Rattle.aa_auto.specs.Spots.{AddsToRows}
use Rattle.aa_auto.proofs.jumps.add_jumps.Goals as goal

pub returns-then-is_skippable : goal.returns-then-is_skippable
returns-then-is_skippable c =
    let positive : 0 < c.args.position = subst (λ n. HasSources n c.args.position) c.in-After.is c.requires.sources in
    on_ok c.add_to_rows.result
    (jumps_skip (lists c.args.rows.now.items) (lists c.add_to_rows.new.rows.items) c.args.node.now c.in-After.item c.args.position
    (c.args.position - 1) c.in-After.is (c.is_skippable.ensures.0 c.if-is_skippable.true) (omega (arith, positive))) c.add_to_rows.ensures

pub returns-in-Same : goal.returns-in-Same
returns-in-Same c =
    on_ok c.add_to_rows-in-Same.result (jumps_same (lists c.args.rows.now.items) (lists c.add_to_rows-in-Same.new.rows.items) c.args.node.now c.in-Same.from c.args.position c.in-Same.is) c.add_to_rows-in-Same.ensures

pub returns-in-Join : goal.returns-in-Join
returns-in-Join c =
    on_ok c.add_to_rows-in-Join.result
    (λ a. jumps_join (lists c.args.rows.now.items)
    (lists c.add_to_rows-in-Join.new.rows.items) c.args.node.now c.in-Join.ends c.args.position c.in-Join.is
    (subst (λ z. AddsToRows (lists c.args.rows.now.items)
    (lists c.add_to_rows-in-Join.new.rows.items) z c.args.position) c.as_slice.ensures.value a)) c.add_to_rows-in-Join.ensures
