use Rattle.std.proofs.Common.{◌≡◌, ◌-◌, length}
use Rattle.aa_redundancy.specs.Tables.{SameTables}
use Rattle.aa_redundancy.specs.Going.{is_free}
use Rattle.aa_redundancy.proofs.Marking.{AreSettled}
use Rattle.aa_redundancy.proofs.going.together.Given as goal

abbrev pub invariant-loop-done : goal.invariant-loop-done
invariant-loop-done l = record {
  wide : length l.gone.items ≡ l.count;
  settled : AreSettled (SameTables l.tables) (is_free l.alone l.held) l.count (l.count - l.done) l.gone.items;
}
