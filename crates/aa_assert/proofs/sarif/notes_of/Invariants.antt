use Rattle.std.proofs.Common.{◌≡◌, map, take}
use Rattle.aa_check.specs.Notified.{notified}
use Rattle.aa_assert.specs.Answers.{answered}
use Rattle.aa_assert.specs.Sarif.{note_text, all_untold}
use Rattle.aa_assert.proofs.sarif.notes_of.Given as goal

abbrev pub invariant-loop-answer : goal.invariant-loop-answer
invariant-loop-answer l = notified l.list.items ≡ map note_text (all_untold (map answered (take l.answer-index l.answers)))
