use Rattle.std.proofs.Common.{map, take}
use Rattle.aa_files.specs.Texts.{texts}
use Rattle.aa_load.specs.UnitPolicy.{limit_of}
use Rattle.aa_who.specs.Answers.{AreAnswers, answered}
use Rattle.aa_who.proofs.answering.answers_to.Given as goal

abbrev pub invariant-loop-word : goal.invariant-loop-word
invariant-loop-word l = AreAnswers l.decided (limit_of l.states) l.unclean (texts (take l.word-index l.words)) (map answered l.answers.items)
