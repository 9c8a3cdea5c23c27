use Rattle.std.proofs.Common.{sym, ◌∙◌}
use Rattle.aa_engine.proofs.Answering.{none_unknown}
use Rattle.aa_engine.proofs.InTurn.{in_turn_start, in_turn_more, in_turn_end}
use Rattle.aa_engine.proofs.in_turn.run_output_in_turn.Goals as goal

pub unreachable-requires : goal.unreachable-requires
unreachable-requires c =
    none_unknown _ c.args.tasks.now c.loop-n.n c.index-tasks-n.result (sym c.requires) c.loop-n-test.true c.index-tasks-n.is
    (sym c.in_default.is ∙ c.opening_label.ensures)

pub loop-n-init : goal.loop-n-init
loop-n-init c = in_turn_start _ _ _ _ c.new-out.ensures.bytes

pub loop-n-preserved : goal.loop-n-preserved
loop-n-preserved c =
    in_turn_more _ _ _ _ c.args.tasks.now c.index-tasks-n.result c.in-Some.opening c.loop-n.n _ c.loop-n-test.true c.index-tasks-n.is
    (sym c.in-Some.is ∙ c.opening_label.ensures) c.in_ok-push_lines.ensures c.loop-n.invariant

pub returns : goal.returns
returns c = in_turn_end _ _ _ c.args.tasks.now c.loop-n.n _ c.loop-n-test.false c.loop-n.invariant
