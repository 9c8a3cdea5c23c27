use Rattle.std.proofs.Common.{sym, ◌∙◌}
use Rattle.aa_rules.proofs.Pairs.{part_step, pair_found, pair_passed, part_none}
use Rattle.aa_diagnostics.proofs.left_out.holds.Goals as goal

pub returns-then-begins_so : goal.returns-then-begins_so
returns-then-begins_so c = pair_found _ _ _ _ (part_step c.args.part.now c.args.text.now c.loop-i.i c.loop-i-test.true) (sym c.begins_so.ensures ∙ c.if-begins_so.true) c.loop-i.invariant

pub loop-i-preserved : goal.loop-i-preserved
loop-i-preserved c = pair_passed _ _ _ _ (part_step c.args.part.now c.args.text.now c.loop-i.i c.loop-i-test.true) (sym c.begins_so.ensures ∙ c.if-begins_so.false) c.loop-i.invariant

pub returns : goal.returns
returns c = part_none c.args.part.now c.args.text.now c.loop-i.i c.loop-i-test.false c.loop-i.invariant
