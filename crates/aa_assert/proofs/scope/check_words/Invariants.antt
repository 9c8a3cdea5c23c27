use Rattle.std.proofs.Common.{◌≡◌, take, true}
use Rattle.std.specs.List.{list_all}
use Rattle.aa_assert.specs.Scope.{is_somebody}
use Rattle.aa_assert.proofs.scope.check_words.Given as goal

abbrev pub invariant-loop-word : goal.invariant-loop-word
invariant-loop-word l = list_all (is_somebody l.part) (take l.word-index l.words) ≡ true
