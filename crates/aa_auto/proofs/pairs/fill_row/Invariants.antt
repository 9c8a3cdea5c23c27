use Rattle.std.proofs.Common.{◌≡◌, ◌+◌, ◌*◌, ◌<◌, ◌≤◌, length, get_or}
use Rattle.aa_auto.specs.Pairs.{AreMet, AreCells}
use Rattle.aa_auto.proofs.pairs.fill_row.Given as goal

abbrev pub invariant-loop-byte : goal.invariant-loop-byte
invariant-loop-byte l = record {
  met : AreMet l.dead l.one l.other l.keys;
  filled : AreCells l.dead l.one l.other l.keys l.bytes l.cells;
  key : l.key ≡ get_or l.keys l.row 0;
  at : get_or l.keys l.number 0 ≡ l.usual;
  within : l.number < length l.keys;
  many : length l.cells ≡ length l.bytes * l.row + l.byte-index;
  row : l.row < length l.keys;
  few : length l.keys ≤ l.limit;
}
