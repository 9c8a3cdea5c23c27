use Rattle.std.proofs.Common.{take}
use Rattle.aa_auto.specs.Nodes.{pointed}
use Rattle.aa_auto.specs.Positions.{ArePositions}
use Rattle.aa_auto.proofs.positions.positions_of.Given as goal

abbrev pub invariant-loop-pattern : goal.invariant-loop-pattern
invariant-loop-pattern l = ArePositions (take l.pattern-index (pointed l.patterns)) l.all l.ends.items
