use Rattle.std.proofs.Common.{◌≡◌, map, take}
use Rattle.aa_assert.specs.Answers.{answered}
use Rattle.aa_assert.specs.Outcomes.{outcome, all_outcomes}
use Rattle.aa_assert.proofs.outcomes.all_outcomes.Given as goal

abbrev pub invariant-loop-answer : goal.invariant-loop-answer
invariant-loop-answer l = map outcome l.list.items ≡ all_outcomes (map answered (take l.answer-index l.answers))
