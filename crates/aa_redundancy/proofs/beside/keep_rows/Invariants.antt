use Rattle.std.proofs.Common.{length, take, All}
use Rattle.aa_redundancy.specs.Keeping.{Keeps, KeptAt}
use Rattle.aa_redundancy.proofs.beside.keep_rows.Given as goal

abbrev pub invariant-loop-at : goal.invariant-loop-at
invariant-loop-at l = record {
  keeps : Keeps (length l.fn.beside.gone.items) l.number l.beside;
  here : All (KeptAt l.beside.gone.items l.number l.tables) (take l.at-index l.rows);
}
