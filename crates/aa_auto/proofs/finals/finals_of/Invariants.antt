use Rattle.aa_auto.specs.Finals.{AreFinals}
use Rattle.aa_auto.proofs.finals.finals_of.Given as goal

abbrev pub invariant-loop-number : goal.invariant-loop-number
invariant-loop-number l = AreFinals l.ends l.number l.many l.finals.items
