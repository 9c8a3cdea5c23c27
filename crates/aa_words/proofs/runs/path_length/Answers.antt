use Rattle.std.proofs.Common.{sym, ◌∙◌, arith}
use Rattle.aa_words.specs.Runs.{path_len}
use Rattle.aa_words.proofs.Extents.{stops_at, goes_at, ends_at, path_step, path_nil}
use Rattle.aa_words.proofs.runs.path_length.Goals as goal

pub returns-then-path_ends : goal.returns-then-path_ends
returns-then-path_ends c = stops_at _ _ _ _ _ (path_step c.loop-i.place c.args.text.now c.loop-i.i c.loop-i-test.true) (sym c.path_ends.ensures ∙ c.if-path_ends.true) c.loop-i.invariant.long

pub loop-i-preserved : goal.loop-i-preserved
loop-i-preserved c = record {
  long = rw c.path_after-place.ensures.next (goes_at _ _ _ _ _ (path_step c.loop-i.place c.args.text.now c.loop-i.i c.loop-i-test.true) (sym c.path_ends.ensures ∙ c.if-path_ends.false) c.loop-i.invariant.long);
  shallow = omega arith;
}

pub returns : goal.returns
returns c = ends_at (path_len c.loop-i.place) c.args.text.now _ c.loop-i.i (path_nil c.loop-i.place) c.loop-i-test.false c.loop-i.auto.i-end c.loop-i.invariant.long
