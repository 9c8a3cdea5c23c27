use Rattle.std.proofs.Common.{◌≡◌, ◌*◌, ◌≤◌, length}
use Rattle.aa_auto.specs.Pairs.{AreMet, AreCells}
use Rattle.aa_auto.proofs.pairs.fill_rows.Given as goal

abbrev pub invariant-loop-row : goal.invariant-loop-row
invariant-loop-row l = record {
  met : AreMet l.dead l.one l.other l.keys;
  filled : AreCells l.dead l.one l.other l.keys l.bytes l.cells;
  many : length l.cells ≡ length l.bytes * l.row;
  row : l.row ≤ length l.keys;
  few : length l.keys ≤ l.limit;
}
