use Rattle.std.proofs.Common.{◌≡◌, length}
use Rattle.aa_redundancy.specs.Without.{only}
use Rattle.aa_redundancy.specs.Tables.{SameTables}
use Rattle.aa_redundancy.specs.Going.{MarksThose, NoneMarked}
use Rattle.aa_redundancy.proofs.going.alone.Given as goal

abbrev pub invariant-loop-number : goal.invariant-loop-number
invariant-loop-number l = record {
  wide : length l.gone.items ≡ l.count;
  none : NoneMarked l.gone.items;
  many : length l.flags.items ≡ l.number;
  those : MarksThose l.flags.items l.number (λ i. SameTables l.tables (only i));
}
