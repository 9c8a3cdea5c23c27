use Rattle.std.proofs.Common.{map, take}
use Rattle.aa_load.specs.UnitPolicy.{limit_of}
use Rattle.aa_assert.specs.Answers.{AreAnswersAs, answered}
use Rattle.aa_assert.proofs.answering.all_answers.Given as goal

abbrev pub invariant-loop-stated : goal.invariant-loop-stated
invariant-loop-stated l = AreAnswersAs l.is_first l.part (limit_of l.states) (take l.stated-index l.all) (map answered l.answers.items)
