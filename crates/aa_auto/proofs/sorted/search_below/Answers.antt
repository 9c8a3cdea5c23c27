use Rattle.std.proofs.Common.{◌+◌, arith, ◌-◌, ◌/◌, ◌<◌, length}
use Rattle.aa_auto.proofs.SortedLemmas.{below_to, above_from}
use Rattle.aa_auto.proofs.sorted.search_below.Goals as goal

pub loop-low-preserved-then-set-middle : goal.loop-low-preserved-then-set-middle
loop-low-preserved-then-set-middle c =
    let middle = c.loop-low.low + (c.loop-low.high - c.loop-low.low) / 2 in
    let inside : c.loop-low.low + (c.loop-low.high - c.loop-low.low) / 2 < length c.args.set.now = omega (arith, c.loop-low.invariant.bound, c.loop-low-test.true) in
    record {
      order = omega (arith, c.loop-low-test.true);
      bound = c.loop-low.invariant.bound;
      below = below_to c.args.set.now c.requires middle c.args.value inside c.if-set-middle.true;
      above = c.loop-low.invariant.above;
    }

pub loop-low-preserved : goal.loop-low-preserved
loop-low-preserved c =
    let middle = c.loop-low.low + (c.loop-low.high - c.loop-low.low) / 2 in
    record {
      order = omega (arith, c.loop-low-test.true);
      bound = omega (arith, c.loop-low.invariant.bound);
      below = c.loop-low.invariant.below;
      above = above_from c.args.set.now c.requires middle c.args.value c.if-set-middle.false;
    }
