use Rattle.std.proofs.Common.{sym, ◌∙◌}
use Rattle.aa_words.specs.Runs.{name_len}
use Rattle.aa_words.proofs.Extents.{stops_at, goes_at, ends_at, name_step, name_nil}
use Rattle.aa_words.proofs.runs.name_length.Goals as goal

pub returns-then-name_ends : goal.returns-then-name_ends
returns-then-name_ends c = stops_at _ _ _ _ _ (name_step c.args.text.now c.loop-i.i c.loop-i-test.true) (sym c.name_ends.ensures ∙ c.if-name_ends.true) c.loop-i.invariant

pub loop-i-preserved : goal.loop-i-preserved
loop-i-preserved c = goes_at _ _ _ _ _ (name_step c.args.text.now c.loop-i.i c.loop-i-test.true) (sym c.name_ends.ensures ∙ c.if-name_ends.false) c.loop-i.invariant

pub returns : goal.returns
returns c = ends_at name_len c.args.text.now _ c.loop-i.i name_nil c.loop-i-test.false c.loop-i.auto.i-end c.loop-i.invariant
