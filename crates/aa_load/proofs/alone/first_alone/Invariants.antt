use Rattle.std.proofs.Common.{take}
use Rattle.aa_load.specs.Spelled.{AreGood}
use Rattle.aa_load.proofs.alone.first_alone.Given as goal

abbrev pub invariant-loop-number : goal.invariant-loop-number
invariant-loop-number l = AreGood l.limit (take l.number l.all)
