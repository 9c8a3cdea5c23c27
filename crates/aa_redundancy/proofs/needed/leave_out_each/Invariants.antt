use Rattle.std.proofs.Common.{◌≡◌, length}
use Rattle.aa_redundancy.specs.Without.{marked}
use Rattle.aa_redundancy.specs.Tables.{Equal, TablesRelated}
use Rattle.aa_redundancy.specs.Reasons.{ChangesNothing}
use Rattle.aa_redundancy.specs.Keeping.{Keeps}
use Rattle.aa_redundancy.proofs.Leaving.{LeftOut}
use Rattle.aa_redundancy.proofs.needed.leave_out_each.Given as goal

abbrev pub invariant-loop-done : goal.invariant-loop-done
invariant-loop-done l = record {
  keeps : Keeps (length l.fn.beside.gone.items) l.number l.beside;
  kept : l.beside.kept.items ≡ l.fn.beside.kept.items;
  enough : ChangesNothing (TablesRelated Equal l.tables) l.number (marked l.beside.gone.items);
  out : LeftOut (TablesRelated Equal l.tables) l.number l.fn.beside.gone.items l.fn.beside.kept.items l.count l.done l.some l.beside.gone.items;
}
