use Rattle.aa_question.specs.Questions.{question_of}
use Rattle.aa_question.specs.Answers.{IsCheckOf}
use Rattle.aa_library.proofs.Handed.{questioned}
use Rattle.aa_library.proofs.aapolicy_check.Goals as goal

pub returns : goal.returns
returns c = questioned question_of IsCheckOf _ _ _ _ _ _ _ _ c.check_question-made.ensures c.hand.ensures
