use Rattle.std.proofs.Common.{take}
use Rattle.aa_redundancy.specs.Mentions.{lists, IsListed, StayListed}
use Rattle.aa_redundancy.proofs.mentions.list_row.Given as goal

abbrev pub invariant-loop-number : goal.invariant-loop-number
invariant-loop-number l = record {
  stay : StayListed (lists l.fn.listed.items) (lists l.listed.items);
  here : IsListed l.table (take l.number-index l.numbers) l.row (lists l.listed.items);
}
