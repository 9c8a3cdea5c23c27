use Rattle.aa_question.specs.Questions.{diff_question_of}
use Rattle.aa_question.specs.Answers.{IsDiffOf}
use Rattle.aa_library.proofs.Handed.{questioned}
use Rattle.aa_library.proofs.aapolicy_diff.Goals as goal

pub returns : goal.returns
returns c = questioned diff_question_of IsDiffOf _ _ _ _ _ _ _ _ c.diff_question-made.ensures c.hand.ensures
