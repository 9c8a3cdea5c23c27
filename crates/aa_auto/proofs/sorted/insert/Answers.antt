use Rattle.std.proofs.Common.{arith, sym, ◌∙◌}
use Rattle.aa_auto.proofs.SortedLemmas.{insert_end, insert_made, not_at}
use Rattle.aa_auto.proofs.sorted.insert.Goals as goal

pub returns-then-count-many : goal.returns-then-count-many
returns-then-count-many c =
    let count = c.count_below-count in
    insert_made count.result c.args.value c.as_slice.ensures.value c.requires count.ensures.bound count.ensures.below count.ensures.above
    (λ lt. absurd (omega (arith, lt, c.if-count-many.true, c.len-many.ensures)))
    (c.in_ok-push.ensures.items ∙ sym (insert_end c.args.set.now.items count.result c.args.value (omega (arith, c.if-count-many.true, c.len-many.ensures))))

pub returns : goal.returns
returns c =
    let count = c.count_below-count in
    insert_made count.result c.args.value c.as_slice.ensures.value c.requires count.ensures.bound count.ensures.below count.ensures.above
    (not_at c.as_slice-2.result.now c.args.set.now.items count.result c.args.value c.is_at.result c.as_slice-2.ensures.value c.is_at.ensures c.if-is_at.false)
    c.in_ok-insert.ensures.items
