use Rattle.std.proofs.Common.{◌≡◌, take, false}
use Rattle.std.specs.List.{list_any}
use Rattle.aa_reach.specs.Heads.{may_be}
use Rattle.aa_reach.proofs.heads.one_may_be.Given as goal

abbrev pub invariant-loop-head : goal.invariant-loop-head
invariant-loop-head l = list_any (may_be l.text) (take l.head-index l.heads) ≡ false
