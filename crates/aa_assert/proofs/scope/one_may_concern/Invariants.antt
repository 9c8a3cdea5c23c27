use Rattle.std.proofs.Common.{◌≡◌, take, false}
use Rattle.std.specs.List.{list_any}
use Rattle.aa_assert.specs.Scope.{may_concern}
use Rattle.aa_assert.proofs.scope.one_may_concern.Given as goal

abbrev pub invariant-loop-file : goal.invariant-loop-file
invariant-loop-file l = list_any (may_concern l.words) (take l.file-index l.skipped) ≡ false
