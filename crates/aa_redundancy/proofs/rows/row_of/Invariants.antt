use Rattle.std.proofs.Common.{◌≡◌, take}
use Rattle.aa_redundancy.proofs.rows.row_of.Given as goal

abbrev pub invariant-loop-number : goal.invariant-loop-number
invariant-loop-number l = l.row.items ≡ take l.number-index l.numbers
