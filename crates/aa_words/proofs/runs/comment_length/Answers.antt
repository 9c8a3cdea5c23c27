use Rattle.std.proofs.Common.{sym, ◌∙◌}
use Rattle.aa_words.specs.Runs.{comment_len}
use Rattle.aa_words.proofs.Extents.{stops_at, goes_at, ends_at, comment_step, comment_nil}
use Rattle.aa_words.proofs.runs.comment_length.Goals as goal

pub returns-then-comment_ends : goal.returns-then-comment_ends
returns-then-comment_ends c = stops_at _ _ _ _ _ (comment_step c.args.text.now c.loop-i.i c.loop-i-test.true) (sym c.comment_ends.ensures ∙ c.if-comment_ends.true) c.loop-i.invariant

pub loop-i-preserved : goal.loop-i-preserved
loop-i-preserved c = goes_at _ _ _ _ _ (comment_step c.args.text.now c.loop-i.i c.loop-i-test.true) (sym c.comment_ends.ensures ∙ c.if-comment_ends.false) c.loop-i.invariant

pub returns : goal.returns
returns c = ends_at comment_len c.args.text.now _ c.loop-i.i comment_nil c.loop-i-test.false c.loop-i.auto.i-end c.loop-i.invariant
