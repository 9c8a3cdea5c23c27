use Rattle.std.proofs.Common.{arith}
use Rattle.std.proofs.lemmas.Grind.{common_steps}
use Rattle.std.proofs.Common.{sym, ◌∙◌}
use Rattle.aa_glob.proofs.Runs.{stops_not, goes_yet, ends_at, stars_step, stars_nil}
use Rattle.aa_glob.proofs.reader.star_count.Goals as goal

pub returns-then-not-is_plain-clause-count : goal.returns-then-not-is_plain-clause-count
returns-then-not-is_plain-clause-count c = stops_not _ _ _ _ _ (stars_step c.args.signs.now c.loop-i.i _ c.loop-i-test.true) (sym c.is_plain.ensures ∙ c.if-not-is_plain.true) c.loop-i.invariant

pub loop-i-preserved : goal.loop-i-preserved
loop-i-preserved c = goes_yet _ _ _ _ _ (stars_step c.args.signs.now c.loop-i.i _ c.loop-i-test.true) (sym c.is_plain.ensures ∙ c.if-not-is_plain.false) c.loop-i.invariant

pub returns-clause-count : goal.returns-clause-count
returns-clause-count c = grind (arith, common_steps, ends_at, stars_nil)
