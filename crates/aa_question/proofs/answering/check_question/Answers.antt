use Rattle.aa_question.specs.Answers.{IsCheckOf}
use Rattle.aa_question.specs.Questions.{question_of, asked}
use Rattle.aa_question.proofs.Answered.{answered_of, refused_of}
use Rattle.aa_question.proofs.answering.check_question.Goals as goal

pub returns-in-Ok : goal.returns-in-Ok
returns-in-Ok c = answered_of question_of IsCheckOf c.args.bytes.now (asked c.in-Ok.question) c.check_asked.result c.in-Ok.ensures.read c.check_asked.ensures

pub returns-in-Err : goal.returns-in-Err
returns-in-Err c = refused_of question_of IsCheckOf c.args.bytes.now c.in-Err.fault c.refuse.result c.in-Err.ensures.refused c.refuse.ensures.said c.refuse.ensures.other
