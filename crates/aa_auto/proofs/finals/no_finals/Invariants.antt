use Rattle.aa_auto.specs.Finals.{AreNoFinals}
use Rattle.aa_auto.proofs.finals.no_finals.Given as goal

abbrev pub invariant-loop-position : goal.invariant-loop-position
invariant-loop-position l = AreNoFinals l.finals.items l._position
