use Rattle.std.proofs.Common.{◌≡◌, ℕ, ◌+◌, length, cond, true, false}
use Rattle.aa_redundancy.specs.Without.{marked}
use Rattle.aa_redundancy.specs.Tables.{Equal, TablesRelated}
use Rattle.aa_redundancy.specs.Reasons.{is_one_of, ChangesNothing}
use Rattle.aa_redundancy.specs.Keeping.{Keeps, IsNeeded, unmarked}
use Rattle.aa_redundancy.proofs.needed.leave_out_all.Given as goal

abbrev pub invariant-loop-some : goal.invariant-loop-some
invariant-loop-some l = record {
  keeps : Keeps (length l.fn.beside.gone.items) l.number l.beside;
  enough : ChangesNothing (TablesRelated Equal l.tables) l.number (marked l.beside.gone.items);
  needed : l.some ≡ false → (n : ℕ) → is_one_of l.beside.kept.items n ≡ true → IsNeeded (TablesRelated Equal l.tables) l.number l.beside.gone.items n;
}

abbrev pub decreases-loop-some : goal.decreases-loop-some
decreases-loop-some l = unmarked l.beside.gone.items + cond l.some 1 0
