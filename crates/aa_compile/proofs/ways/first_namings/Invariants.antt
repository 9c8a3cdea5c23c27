use Rattle.std.proofs.Common.{take}
use Rattle.aa_compile.specs.Namings.{AreFirstNamings}
use Rattle.aa_compile.proofs.ways.first_namings.Given as goal

abbrev pub invariant-loop-number : goal.invariant-loop-number
invariant-loop-number l = AreFirstNamings l.firsts (take l.number l.rules)
