use Rattle.aa_redundancy.specs.Adding.{AreTablesOf}
use Rattle.aa_redundancy.proofs.redundant.tables_of.Given as goal

abbrev pub invariant-loop-number : goal.invariant-loop-number
invariant-loop-number l = AreTablesOf l.profiles l.numbers l.limit l.number l.all
