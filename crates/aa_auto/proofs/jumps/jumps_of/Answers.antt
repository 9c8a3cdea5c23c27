use Rattle.std.proofs.Common.{arith, ◌∙◌}
use Rattle.std.proofs.lemmas.List.{get_or_default}
use Rattle.aa_auto.specs.declared.nodes.Node.TheVariants.{Start}
use Rattle.aa_auto.proofs.JumpLemmas.{lists, length_lists, jumps_start, jumps_more, jumps_all}
use Rattle.aa_auto.proofs.jumps.jumps_of.Goals as goal

pub loop-position-init : goal.loop-position-init
loop-position-init c = jumps_start c.args.nodes.now (lists c.in_ok-rows.rows.items) c.in_ok-rows.ensures

pub add_jumps-requires-clause-within : goal.add_jumps-requires-clause-within
add_jumps-requires-clause-within c = omega (arith, c.loop-position.invariant.many, length_lists c.loop-position.rows.items)

pub loop-position-preserved : goal.loop-position-preserved
loop-position-preserved c =
    jumps_more c.args.nodes.now c.loop-position.position (lists c.loop-position.rows.items) (lists c.add_jumps.new.rows.items) c.index-nodes-position.result
    (c.index-nodes-position.is ∙ get_or_default c.args.nodes.now c.loop-position.position c.index-nodes-position.result Start c.loop-position-test.true)
    c.loop-position.invariant c.in_ok-add_jumps.ensures

pub returns : goal.returns
returns c = jumps_all c.args.nodes.now c.loop-position.position (lists c.loop-position.rows.items) (omega arith) c.loop-position.invariant
