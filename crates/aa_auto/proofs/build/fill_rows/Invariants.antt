use Rattle.std.proofs.Common.{◌≡◌, ◌*◌, ◌≤◌, length}
use Rattle.aa_auto.specs.Explored.{AreReached, AreFilled, AreListed}
use Rattle.aa_auto.proofs.build.fill_rows.Given as goal

abbrev pub invariant-loop-row : goal.invariant-loop-row
invariant-loop-row l = record {
  reached : AreReached l.net l.found.sets;
  listed : AreListed l.net l.found.sets l.found.lists;
  filled : AreFilled l.net l.found.sets l.bytes l.cells;
  many : length l.cells ≡ length l.bytes * l.row;
  row : l.row ≤ length l.found.sets;
  few : length l.found.sets ≤ l.limit;
  noted : length l.noted.named.items ≡ 256;
}
