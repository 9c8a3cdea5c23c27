use Rattle.aa_notation.proofs.Loops.{letters_stop, letters_go, letters_end}
use Rattle.aa_notation.proofs.read.letters_of.Goals as goal

pub returns-in_default : goal.returns-in_default
returns-in_default c = letters_stop _ c.args.letters.now c.loop-b.b-index _ c.loop-b-test.true c.in_default.ensures c.loop-b.invariant

pub loop-b-preserved : goal.loop-b-preserved
loop-b-preserved c = letters_go _ c.args.letters.now c.loop-b.b-index _ _ _ c.loop-b-test.true c.in-Some.ensures (c.insert.ensures tt) c.loop-b.invariant

pub returns : goal.returns
returns c = letters_end _ c.args.letters.now c.loop-b.b-index _ c.loop-b-test.false c.loop-b.invariant
