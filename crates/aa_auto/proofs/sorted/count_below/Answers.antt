use Rattle.std.proofs.Common.{arith, ◌-◌, length}
use Rattle.aa_auto.proofs.SortedLemmas.{below_to}
use Rattle.aa_auto.proofs.sorted.count_below.Goals as goal

pub returns-then-set-many-clause-below : goal.returns-then-set-many-clause-below
returns-then-set-many-clause-below c = λ k lt.
    below_to c.args.set.now c.requires (length c.args.set.now - 1) c.args.value (omega arith) c.if-set-many.true k (omega arith)
