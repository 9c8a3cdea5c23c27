use Rattle.aa_auto.specs.Spots.{AreStarts}
use Rattle.aa_auto.proofs.moves.beginnings.Given as goal

abbrev pub invariant-loop-position : goal.invariant-loop-position
invariant-loop-position l = AreStarts l.nodes l.position l.new.items
