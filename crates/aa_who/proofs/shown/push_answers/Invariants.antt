use Rattle.std.proofs.Common.{◌≡◌, ◌++◌, map, take, flat_map}
use Rattle.aa_undecided.specs.Answers.{placed_all}
use Rattle.aa_who.specs.Answers.{answered}
use Rattle.aa_who.specs.Shown.{answer_text}
use Rattle.aa_who.proofs.shown.push_answers.Given as goal

abbrev pub invariant-loop-answer : goal.invariant-loop-answer
invariant-loop-answer l = l.out.items ≡ l.initial.out.items ++ flat_map (answer_text (placed_all l.holders)) (map answered (take l.answer-index l.answers))
