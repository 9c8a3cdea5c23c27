use Rattle.aa_auto.specs.Division.{Divides}
use Rattle.aa_auto.proofs.classes.divide.Given as goal

abbrev pub invariant-loop-byte : goal.invariant-loop-byte
invariant-loop-byte l = Divides l.keys l.byte l.of.items l.bytes.items
