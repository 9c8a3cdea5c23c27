use Rattle.std.proofs.Common.{◌≡◌, ◌++◌, drop}
use Rattle.aa_compile.specs.Holding.{cap_holds}
use Rattle.aa_redundancy.specs.Plain.{positions_from}
use Rattle.aa_redundancy.proofs.entries.row_of_cap.Given as goal

abbrev pub invariant-loop-number : goal.invariant-loop-number
invariant-loop-number l = l.row.items ++ positions_from (cap_holds l.cap) l.number (drop l.number l.rules) ≡ positions_from (cap_holds l.cap) 0 l.rules
