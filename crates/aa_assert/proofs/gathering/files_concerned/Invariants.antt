use Rattle.std.proofs.Common.{◌≡◌, map, take}
use Rattle.std.specs.Prelude.{filter}
use Rattle.aa_undecided.specs.Answers.{placed, placed_all}
use Rattle.aa_assert.specs.Scope.{may_concern}
use Rattle.aa_assert.proofs.gathering.files_concerned.Given as goal

abbrev pub invariant-loop-file : goal.invariant-loop-file
invariant-loop-file l = placed_all l.files.items ≡ map placed (filter (may_concern l.words) (take l.file-index l.part.skipped.now))
