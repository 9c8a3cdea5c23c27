use Rattle.aa_redundancy.specs.Plain.{cap_row, HasRows}
use Rattle.aa_redundancy.proofs.entries.rows_of_caps.Given as goal

abbrev pub invariant-loop-cap : goal.invariant-loop-cap
invariant-loop-cap l = HasRows (cap_row l.rules) l.cap l.rows.items
