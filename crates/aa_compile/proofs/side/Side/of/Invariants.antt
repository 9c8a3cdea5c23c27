use Rattle.std.proofs.Common.{◌≡◌, drop}
use Rattle.aa_compile.specs.Gathered.{picked}
use Rattle.aa_compile.specs.Sides.{joined, side_by}
use Rattle.aa_compile.proofs.side.Side.of.Given as goal

abbrev pub invariant-loop-number : goal.invariant-loop-number
invariant-loop-number l = joined l.side (side_by l.owned (picked l.marks (drop l.number-index l.numbers))) ≡ side_by l.owned (picked l.marks l.numbers)
