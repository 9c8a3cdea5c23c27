use Rattle.std.proofs.Common.{◌≡◌, ◌+◌, ◌*◌, ◌<◌, ◌≤◌, [], length, get_or}
use Rattle.aa_auto.specs.Explored.{AreReached, AreFilled, AreListed, Goes}
use Rattle.aa_auto.specs.Noted.{AreNoted}
use Rattle.aa_auto.proofs.build.fill_row.Given as goal

abbrev pub invariant-loop-byte : goal.invariant-loop-byte
invariant-loop-byte l = record {
  reached : AreReached l.net l.found.sets;
  listed : AreListed l.net l.found.sets l.found.lists;
  filled : AreFilled l.net l.found.sets l.bytes l.cells;
  usual : Goes l.net l.found.sets l.row 255 l.usual;
  noted : AreNoted l.net.nodes.items (get_or l.found.sets l.row []) l.row l.noted.named.items l.noted.asked.items;
  many : length l.cells ≡ length l.bytes * l.row + l.byte-index;
  row : l.row < length l.found.sets;
  few : length l.found.sets ≤ l.limit;
}
