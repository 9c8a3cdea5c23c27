use Rattle.std.proofs.Common.{sym, ◌∙◌}
use Rattle.aa_words.specs.Runs.{quote_len}
use Rattle.aa_words.proofs.Extents.{stops_at, goes_at, ends_at, quote_step, quote_nil}
use Rattle.aa_words.proofs.runs.quote_length.Goals as goal

pub returns-then-quote_ends : goal.returns-then-quote_ends
returns-then-quote_ends c = stops_at _ _ _ _ _ (quote_step c.loop-i.kept c.args.text.now c.loop-i.i c.loop-i-test.true) (sym c.quote_ends.ensures ∙ c.if-quote_ends.true) c.loop-i.invariant

pub loop-i-preserved : goal.loop-i-preserved
loop-i-preserved c = rw c.keeps_next-kept.ensures (goes_at _ _ _ _ _ (quote_step c.loop-i.kept c.args.text.now c.loop-i.i c.loop-i-test.true) (sym c.quote_ends.ensures ∙ c.if-quote_ends.false) c.loop-i.invariant)

pub returns : goal.returns
returns c = ends_at (quote_len c.loop-i.kept) c.args.text.now _ c.loop-i.i (quote_nil c.loop-i.kept) c.loop-i-test.false c.loop-i.auto.i-end c.loop-i.invariant
