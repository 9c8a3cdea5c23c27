use Rattle.std.proofs.Common.{◌≡◌, ◌++◌, drop}
use Rattle.aa_compile.specs.Holding.{net_holds}
use Rattle.aa_redundancy.specs.Plain.{positions_from}
use Rattle.aa_redundancy.proofs.entries.row_of_net.Given as goal

abbrev pub invariant-loop-number : goal.invariant-loop-number
invariant-loop-number l = l.row.items ++ positions_from (net_holds l.family l.kind) l.number (drop l.number l.rules) ≡ positions_from (net_holds l.family l.kind) 0 l.rules
