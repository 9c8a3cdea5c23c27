use Rattle.std.proofs.Common.{arith}
use Rattle.std.proofs.lemmas.Grind.{common_steps}
use Rattle.std.proofs.Common.{sym, ◌∙◌}
use Rattle.aa_glob.proofs.Runs.{stops_at, goes_at, ends_at, class_step, class_nil}
use Rattle.aa_glob.proofs.classes.class_length.Goals as goal

pub returns-then-is_plain-clause-length : goal.returns-then-is_plain-clause-length
returns-then-is_plain-clause-length c = stops_at _ _ _ _ _ (class_step c.args.signs.now c.loop-i.i _ c.loop-i-test.true) (sym c.is_plain.ensures ∙ c.if-is_plain.true) c.loop-i.invariant

pub loop-i-preserved : goal.loop-i-preserved
loop-i-preserved c = goes_at _ _ _ _ _ (class_step c.args.signs.now c.loop-i.i _ c.loop-i-test.true) (sym c.is_plain.ensures ∙ c.if-is_plain.false) c.loop-i.invariant

pub returns-clause-length : goal.returns-clause-length
returns-clause-length c = grind (arith, common_steps, ends_at, class_nil)
