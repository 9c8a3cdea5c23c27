use Rattle.aa_question.specs.Questions.{question_of}
use Rattle.aa_question.specs.Answers.{IsAskOf}
use Rattle.aa_library.proofs.Handed.{questioned}
use Rattle.aa_library.proofs.aapolicy_ask.Goals as goal

pub returns : goal.returns
returns c = questioned question_of IsAskOf _ _ _ _ _ _ _ _ c.ask_question-made.ensures c.hand.ensures
