use Rattle.std.proofs.Common.{sym, ◌∙◌}
use Rattle.aa_words.specs.Runs.{variable_len}
use Rattle.aa_words.proofs.Extents.{stops_at, goes_at, ends_at, variable_step, variable_nil}
use Rattle.aa_words.proofs.runs.variable_length.Goals as goal

pub returns-then-variable_ends : goal.returns-then-variable_ends
returns-then-variable_ends c = stops_at _ _ _ _ _ (variable_step c.args.text.now c.loop-i.i c.loop-i-test.true) (sym c.variable_ends.ensures ∙ c.if-variable_ends.true) c.loop-i.invariant

pub loop-i-preserved : goal.loop-i-preserved
loop-i-preserved c = goes_at _ _ _ _ _ (variable_step c.args.text.now c.loop-i.i c.loop-i-test.true) (sym c.variable_ends.ensures ∙ c.if-variable_ends.false) c.loop-i.invariant

pub returns : goal.returns
returns c = ends_at variable_len c.args.text.now _ c.loop-i.i variable_nil c.loop-i-test.false c.loop-i.auto.i-end c.loop-i.invariant
