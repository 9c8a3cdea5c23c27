use Rattle.std.proofs.Common.{◌≡◌, ◌++◌, take, flat_map}
use Rattle.aa_skipped.specs.Telling.{listed_head}
use Rattle.aa_skipped.proofs.telling.push_each_head.Given as goal

abbrev pub invariant-loop-head : goal.invariant-loop-head
invariant-loop-head l = l.out.items ≡ l.initial.out.items ++ flat_map listed_head (take l.head-index l.heads)
