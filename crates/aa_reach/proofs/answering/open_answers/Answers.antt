use Rattle.aa_reach.specs.Answers.{IsOpenAnswer}
use Rattle.aa_reach.proofs.Zipped.{zipped_text}
use Rattle.aa_reach.proofs.answering.open_answers.Goals as goal

pub loop-word-preserved : goal.loop-word-preserved
loop-word-preserved c =
    zipped_text (IsOpenAnswer c.args.skipped.now) c.args.words.now c.loop-word.word-index c.word-item.result c.as_slice.result.now
    c.loop-word.answers.items c.push.new.self.items c.in_ok-open_answer.field-0 c.loop-word-test.true c.word-item.is c.as_slice.ensures.value
    c.in_ok-push.ensures.items c.in_ok-open_answer.ensures c.loop-word.invariant
