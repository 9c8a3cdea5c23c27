use Rattle.aa_question.specs.Answers.{IsDiffOf}
use Rattle.aa_question.specs.Questions.{diff_question_of, diff_asked}
use Rattle.aa_question.proofs.Answered.{answered_of, refused_of}
use Rattle.aa_question.proofs.answering.diff_question.Goals as goal

pub returns-in-Ok : goal.returns-in-Ok
returns-in-Ok c = answered_of diff_question_of IsDiffOf c.args.bytes.now (diff_asked c.in-Ok.question) c.diff_asked.result c.in-Ok.ensures.read c.diff_asked.ensures

pub returns-in-Err : goal.returns-in-Err
returns-in-Err c = refused_of diff_question_of IsDiffOf c.args.bytes.now c.in-Err.fault c.refuse.result c.in-Err.ensures.refused c.refuse.ensures.said c.refuse.ensures.other
