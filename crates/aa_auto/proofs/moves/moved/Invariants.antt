use Rattle.std.proofs.Common.{take}
use Rattle.aa_auto.specs.Spots.{MovesFrom}
use Rattle.aa_auto.proofs.moves.moved.Given as goal

abbrev pub invariant-loop-start : goal.invariant-loop-start
invariant-loop-start l = MovesFrom l.nodes l.byte (take l.start-index l.old) l.seeds.items
