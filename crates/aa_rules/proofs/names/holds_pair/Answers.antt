use Rattle.std.proofs.Common.{sym, ◌∙◌}
use Rattle.aa_rules.proofs.Pairs.{pair_step, pair_found, pair_passed, pair_none}
use Rattle.aa_rules.proofs.names.holds_pair.Goals as goal

pub returns-then-begins_pair : goal.returns-then-begins_pair
returns-then-begins_pair c = pair_found _ _ _ _ (pair_step c.args.a c.args.b c.args.text.now c.loop-i.i c.loop-i-test.true) (sym c.begins_pair.ensures ∙ c.if-begins_pair.true) c.loop-i.invariant

pub loop-i-preserved : goal.loop-i-preserved
loop-i-preserved c = pair_passed _ _ _ _ (pair_step c.args.a c.args.b c.args.text.now c.loop-i.i c.loop-i-test.true) (sym c.begins_pair.ensures ∙ c.if-begins_pair.false) c.loop-i.invariant

pub returns : goal.returns
returns c = pair_none c.args.a c.args.b c.args.text.now c.loop-i.i c.loop-i-test.false c.loop-i.invariant
