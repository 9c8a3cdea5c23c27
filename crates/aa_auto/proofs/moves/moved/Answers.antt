use Rattle.std.proofs.lemmas.Grind.{common_steps}
use Rattle.std.proofs.Common.{arith, refl}
use Rattle.aa_auto.proofs.SortedLemmas.{contains_at}
use Rattle.aa_auto.proofs.MoveLemmas.{moves_more}
use Rattle.aa_auto.proofs.moves.moved.Goals as goal

pub move_from-requires-clause-start : goal.move_from-requires-clause-start
move_from-requires-clause-start c = c.requires.within _ (contains_at c.args.old.now c.loop-start.start-index _ c.loop-start-test.true refl)

pub loop-start-preserved : goal.loop-start-preserved
loop-start-preserved c =
    moves_more c.args.nodes.now c.args.byte c.args.old.now c.loop-start.seeds.items c.move_from.new.set.items c.loop-start.start-index _ c.loop-start-test.true refl c.loop-start.invariant c.in_ok-move_from.ensures

pub returns : goal.returns
returns c = grind (arith, common_steps)
