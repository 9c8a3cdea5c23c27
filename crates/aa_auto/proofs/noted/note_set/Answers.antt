use Rattle.std.proofs.lemmas.Grind.{common_steps}
use Rattle.std.proofs.Common.{arith, refl}
use Rattle.aa_auto.proofs.NotedLemmas.{noted_more}
use Rattle.aa_auto.proofs.noted.note_set.Goals as goal

pub loop-start-preserved : goal.loop-start-preserved
loop-start-preserved c =
    noted_more c.args.nodes.now c.args.set.now c.loop-start.start-index _ c.args.mark c.loop-start.named.items c.note.new.named.items c.loop-start.asked.items
    c.note.new.asked.items
    c.loop-start-test.true refl c.loop-start.invariant c.in_ok-note.ensures

pub returns : goal.returns
returns c = grind (arith, common_steps)
