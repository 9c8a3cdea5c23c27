use Rattle.std.proofs.Common.{refl, get_or, length, None}
use Rattle.aa_auto.proofs.SortedLemmas.{contains_at}
use Rattle.aa_auto.proofs.FinalLemmas.{numbers_more, numbers_all}
use Rattle.aa_auto.proofs.finals.numbers_at.Goals as goal

pub bounds-finals-position : goal.bounds-finals-position
bounds-finals-position c = c.requires _ (contains_at c.args.set.now c.loop-position.position-index _ c.loop-position-test.true refl)

pub loop-position-preserved : goal.loop-position-preserved
loop-position-preserved c = λ ends up rising all.
    let v = get_or c.args.set.now c.loop-position.position-index 0 in
    numbers_more ends c.args.set.now c.loop-position.position-index v (length c.args.finals.now) c.args.finals.now c.loop-position.numbers.items up rising c.loop-position-test.true refl all
    (c.loop-position.invariant ends up rising all) (get_or c.args.finals.now v None) c.push_number.new.numbers.items refl c.in_ok-push_number.ensures

pub returns : goal.returns
returns c = λ ends up rising all. numbers_all ends c.args.set.now c.loop-position.numbers.items c.loop-position.position-index c.loop-position-test.false (c.loop-position.invariant ends up rising all)
