use Rattle.std.proofs.Common.{◌≡◌, ◌++◌}
use Rattle.aa_auto.proofs.JumpLemmas.{lists}
use Rattle.aa_auto.proofs.lists.Lists.into_parts.Given as goal

abbrev pub invariant-loop-list : goal.invariant-loop-list
invariant-loop-list l = lists l.lists.items ++ lists l.list-iterator ≡ lists l.initial.list-iterator
