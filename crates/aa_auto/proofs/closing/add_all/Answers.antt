use Rattle.std.proofs.Common.{arith, refl}
use Rattle.aa_auto.proofs.SortedLemmas.{contains_at}
use Rattle.aa_auto.proofs.ClosedLemmas.{all_more, none_added}
use Rattle.aa_auto.proofs.closing.add_all.Goals as goal

pub loop-number-init : goal.loop-number-init
loop-number-init c = none_added c.args.indexes.now c.args.set.now.items c.requires.indexed

pub add-requires-clause-number : goal.add-requires-clause-number
add-requires-clause-number c = omega (arith, c.requires.numbers _ (contains_at c.args.numbers.now c.loop-number.number-index _ c.loop-number-test.true refl), c.loop-number.invariant.many)

pub loop-number-preserved : goal.loop-number-preserved
loop-number-preserved c =
    all_more c.args.indexes.now c.loop-number.indexes c.add.new.indexes c.args.set.now.items c.loop-number.set.items c.add.new.set.items c.args.numbers.now c.loop-number.number-index _
    c.loop-number-test.true refl c.loop-number.invariant c.in_ok-add.ensures
