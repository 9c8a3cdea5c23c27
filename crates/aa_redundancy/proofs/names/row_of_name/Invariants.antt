use Rattle.std.proofs.Common.{◌≡◌, ◌++◌, drop}
use Rattle.aa_compile.specs.Holding.{change_holds}
use Rattle.aa_redundancy.specs.Plain.{positions_from}
use Rattle.aa_redundancy.proofs.names.row_of_name.Given as goal

abbrev pub invariant-loop-number : goal.invariant-loop-number
invariant-loop-number l = l.row.items ++ positions_from (change_holds l.name) l.number (drop l.number l.rules) ≡ positions_from (change_holds l.name) 0 l.rules
