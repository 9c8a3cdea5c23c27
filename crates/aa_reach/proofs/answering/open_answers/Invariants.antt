use Rattle.std.proofs.Common.{take}
use Rattle.std.specs.List.{AllZip}
use Rattle.aa_files.specs.Texts.{texts}
use Rattle.aa_reach.specs.Answers.{IsOpenAnswer}
use Rattle.aa_reach.proofs.answering.open_answers.Given as goal

abbrev pub invariant-loop-word : goal.invariant-loop-word
invariant-loop-word l = AllZip (IsOpenAnswer l.skipped) (texts (take l.word-index l.words)) l.answers.items
