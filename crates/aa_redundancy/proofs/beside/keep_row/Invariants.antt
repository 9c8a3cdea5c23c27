use Rattle.std.proofs.Common.{length, take}
use Rattle.aa_redundancy.specs.Keeping.{Keeps, StayKept, RowKept}
use Rattle.aa_redundancy.proofs.beside.keep_row.Given as goal

abbrev pub invariant-loop-mark : goal.invariant-loop-mark
invariant-loop-mark l = record {
  keeps : Keeps (length l.fn.beside.gone.items) l.number l.beside;
  stay : StayKept l.fn.beside l.beside;
  here : RowKept l.beside.gone.items l.number l.marks (take l.mark-index l.row);
}
