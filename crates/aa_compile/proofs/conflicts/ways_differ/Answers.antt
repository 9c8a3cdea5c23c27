use Rattle.std.proofs.Common.{true≢false, sym, get_or, arith}
use Rattle.aa_compile.specs.Conflicts.{way_at}
use Rattle.aa_compile.proofs.DifferLemmas.{first_more, none_differ}
use Rattle.aa_compile.proofs.conflicts.ways_differ.Goals as goal

pub loop-number-preserved : goal.loop-number-preserved
loop-number-preserved c =
    let r = first_more (λ k. way_at c.args.marks.now c.args.literal (get_or c.args.numbers.now k 0)) c.loop-number.number-index c.loop-number.first c.way_of-way.result c.or-first.result
    c.way_of-way.ensures c.or-first.ensures (c.differ.ensures.alike c.if-differ.false) c.loop-number.invariant.from c.loop-number.invariant.each in
    record { from = r.from; each = r.each }

pub returns : goal.returns
returns c = (
  λ h. absurd (true≢false (sym h)),
  λ d. absurd (none_differ (λ k. way_at c.args.marks.now c.args.literal (get_or c.args.numbers.now k 0)) c.loop-number.number-index c.loop-number.first c.loop-number.invariant.each
      d.i d.j d.one d.other (omega (arith, d.within.0, c.loop-number-test.false)) (omega (arith, d.within.1, c.loop-number-test.false)) d.first d.second d.differ),
)
