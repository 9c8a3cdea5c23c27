use Rattle.std.proofs.Common.{sym, ◌∙◌}
use Rattle.aa_words.specs.Runs.{value_len}
use Rattle.aa_words.proofs.Extents.{stops_at, goes_at, ends_at, value_step, value_nil}
use Rattle.aa_words.proofs.runs.value_length.Goals as goal

pub returns-then-value_ends : goal.returns-then-value_ends
returns-then-value_ends c = stops_at _ _ _ _ _ (value_step c.args.text.now c.loop-i.i c.loop-i-test.true) (sym c.value_ends.ensures ∙ c.if-value_ends.true) c.loop-i.invariant

pub loop-i-preserved : goal.loop-i-preserved
loop-i-preserved c = goes_at _ _ _ _ _ (value_step c.args.text.now c.loop-i.i c.loop-i-test.true) (sym c.value_ends.ensures ∙ c.if-value_ends.false) c.loop-i.invariant

pub returns : goal.returns
returns c = ends_at value_len c.args.text.now _ c.loop-i.i value_nil c.loop-i-test.false c.loop-i.auto.i-end c.loop-i.invariant
