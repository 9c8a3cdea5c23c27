use Rattle.std.proofs.Common.{◌≡◌, take, false}
use Rattle.std.specs.List.{list_any}
use Rattle.aa_assert.specs.Scope.{may_be_about}
use Rattle.aa_assert.proofs.scope.may_be_about_one.Given as goal

abbrev pub invariant-loop-head : goal.invariant-loop-head
invariant-loop-head l = list_any (may_be_about l.words) (take l.head-index l.heads) ≡ false
