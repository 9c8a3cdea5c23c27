use Rattle.std.proofs.Common.{sym, ◌∙◌, arith}
use Rattle.aa_words.specs.Runs.{skip_len}
use Rattle.aa_words.proofs.Extents.{stops_at, goes_at, ends_at, skip_step, skip_nil}
use Rattle.aa_words.proofs.skips.skip_length.Goals as goal

pub returns-then-skip_ends : goal.returns-then-skip_ends
returns-then-skip_ends c = stops_at _ _ _ _ _ (skip_step c.loop-i.place c.args.text.now c.loop-i.i c.loop-i-test.true) (sym c.skip_ends.ensures ∙ c.if-skip_ends.true) c.loop-i.invariant.long

pub loop-i-preserved : goal.loop-i-preserved
loop-i-preserved c = record {
  long = rw c.skip_behind-place.ensures.next (goes_at _ _ _ _ _ (skip_step c.loop-i.place c.args.text.now c.loop-i.i c.loop-i-test.true) (sym c.skip_ends.ensures ∙ c.if-skip_ends.false) c.loop-i.invariant.long);
  round = omega arith;
  curly = omega arith;
  square = omega arith;
}

pub returns : goal.returns
returns c = ends_at (skip_len c.loop-i.place) c.args.text.now _ c.loop-i.i (skip_nil c.loop-i.place) c.loop-i-test.false c.loop-i.auto.i-end c.loop-i.invariant.long
