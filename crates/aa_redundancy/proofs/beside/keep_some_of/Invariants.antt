use Rattle.std.proofs.Common.{length}
use Rattle.aa_redundancy.specs.Keeping.{Keeps}
use Rattle.aa_redundancy.proofs.beside.keep_some_of.Given as goal

abbrev pub invariant-loop-at : goal.invariant-loop-at
invariant-loop-at l = Keeps (length l.fn.beside.gone.items) l.number l.beside
