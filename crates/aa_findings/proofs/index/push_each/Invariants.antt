use Rattle.std.proofs.Common.{◌≡◌, length, take}
use Rattle.aa_findings.specs.Places.{lists}
use Rattle.aa_findings.proofs.Indexing.{Placed}
use Rattle.aa_findings.proofs.index.push_each.Given as goal

abbrev pub invariant-loop-number : goal.invariant-loop-number
invariant-loop-number l = record {
  many : length l.index.items ≡ length l.fn.index.items;
  each : Placed l.place (take l.number-index l.numbers) (lists l.fn.index.items) (lists l.index.items);
}
