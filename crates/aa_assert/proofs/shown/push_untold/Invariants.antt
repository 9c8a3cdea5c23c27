use Rattle.std.proofs.Common.{◌≡◌, ◌++◌, map, take, flat_map}
use Rattle.aa_assert.specs.Answers.{answered}
use Rattle.aa_assert.specs.Shown.{untold_text}
use Rattle.aa_assert.proofs.shown.push_untold.Given as goal

abbrev pub invariant-loop-answer : goal.invariant-loop-answer
invariant-loop-answer l = l.out.items ≡ l.initial.out.items ++ flat_map untold_text (map answered (take l.answer-index l.answers))
