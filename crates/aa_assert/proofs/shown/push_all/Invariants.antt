use Rattle.std.proofs.Common.{◌≡◌, ◌++◌, map, take, flat_map}
use Rattle.aa_assert.specs.Answers.{answered}
use Rattle.aa_assert.specs.Shown.{answer_text}
use Rattle.aa_assert.proofs.shown.push_all.Given as goal

abbrev pub invariant-loop-answer : goal.invariant-loop-answer
invariant-loop-answer l = l.out.items ≡ l.initial.out.items ++ flat_map (answer_text l.path) (map answered (take l.answer-index l.answers))
