use Rattle.std.proofs.Common.{◌/◌, ◌%◌}
use Rattle.aa_redundancy.specs.Plain.{net_row, HasRows}
use Rattle.aa_redundancy.proofs.entries.rows_of_nets.Given as goal

abbrev pub invariant-loop-number : goal.invariant-loop-number
invariant-loop-number l = HasRows (λ n. net_row l.rules (n / 6) (n % 6)) l.number l.rows.items
