use Rattle.std.proofs.Common.{sym, ◌∙◌}
use Rattle.aa_rules.proofs.Pairs.{pair_found, pair_passed}
use Rattle.aa_diagnostics.proofs.Kept.{kept_step, kept_none}
use Rattle.aa_diagnostics.proofs.left_out.keeps_letter.Goals as goal

pub returns-then-is_kept_letter : goal.returns-then-is_kept_letter
returns-then-is_kept_letter c = pair_found _ _ _ _ (kept_step c.args.text.now c.loop-i.i c.loop-i-test.true) (sym c.is_kept_letter.ensures ∙ c.if-is_kept_letter.true) c.loop-i.invariant

pub loop-i-preserved : goal.loop-i-preserved
loop-i-preserved c = pair_passed _ _ _ _ (kept_step c.args.text.now c.loop-i.i c.loop-i-test.true) (sym c.is_kept_letter.ensures ∙ c.if-is_kept_letter.false) c.loop-i.invariant

pub returns : goal.returns
returns c = kept_none c.args.text.now c.loop-i.i c.loop-i-test.false c.loop-i.invariant
