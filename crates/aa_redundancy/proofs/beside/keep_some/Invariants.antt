use Rattle.std.proofs.Common.{length}
use Rattle.aa_redundancy.specs.Keeping.{Keeps}
use Rattle.aa_redundancy.proofs.beside.keep_some.Given as goal

abbrev pub invariant-loop-mark : goal.invariant-loop-mark
invariant-loop-mark l = Keeps (length l.fn.beside.gone.items) l.number l.beside
