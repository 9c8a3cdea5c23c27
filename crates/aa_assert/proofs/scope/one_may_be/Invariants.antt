use Rattle.std.proofs.Common.{◌≡◌, take, false}
use Rattle.std.specs.List.{list_any}
use Rattle.aa_assert.specs.Scope.{may_be}
use Rattle.aa_assert.proofs.scope.one_may_be.Given as goal

abbrev pub invariant-loop-head : goal.invariant-loop-head
invariant-loop-head l = list_any (may_be l.word) (take l.head-index l.heads) ≡ false
