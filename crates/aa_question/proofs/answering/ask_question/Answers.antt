use Rattle.aa_question.specs.Answers.{IsAskOf}
use Rattle.aa_question.specs.Questions.{question_of, asked}
use Rattle.aa_question.proofs.Answered.{answered_of, refused_of}
use Rattle.aa_question.proofs.answering.ask_question.Goals as goal

pub returns-in-Ok : goal.returns-in-Ok
returns-in-Ok c = answered_of question_of IsAskOf c.args.bytes.now (asked c.in-Ok.question) c.ask_words.result c.in-Ok.ensures.read c.ask_words.ensures

pub returns-in-Err : goal.returns-in-Err
returns-in-Err c = refused_of question_of IsAskOf c.args.bytes.now c.in-Err.fault c.refuse.result c.in-Err.ensures.refused c.refuse.ensures.said c.refuse.ensures.other
