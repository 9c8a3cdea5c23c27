use Rattle.std.proofs.Common.{◌≡◌, map, take}
use Rattle.aa_auto.specs.Pairs.{list_of_pair}
use Rattle.aa_auto.proofs.JumpLemmas.{lists}
use Rattle.aa_auto.proofs.joining.joined_lists.Given as goal

abbrev pub invariant-loop-key : goal.invariant-loop-key
invariant-loop-key l = lists l.lists.items ≡ map (list_of_pair l.moved l.one l.other) (take l.key-index l.numbers)
