use Rattle.std.proofs.Common.{refl}
use Rattle.aa_differences.specs.declared.at_labels.Difference.{Difference}
use Rattle.aa_differences.proofs.Adding.{adds_none, adds_one}
use Rattle.aa_differences.proofs.at_labels.add_difference.Goals as goal

pub returns-then-same_answer : goal.returns-then-same_answer
returns-then-same_answer c =
    adds_none c.args.old.now c.args.new.now c.args.from c.args.to c.args.request.now c.answer_of-before.result c.answer_of-after.result c.args.differences.now.items c.answer_of-before.ensures c.answer_of-after.ensures
    (c.same_answer.ensures.same c.if-same_answer.true)

pub returns : goal.returns
returns c =
    let d : Difference = record { from = c.args.from; to = c.args.to; request = c.in_ok-try_clone.field-0; old = c.answer_of-before.result; new = c.answer_of-after.result } in
    adds_one c.args.old.now c.args.new.now c.args.from c.args.to c.args.request.now c.answer_of-before.result c.answer_of-after.result c.args.differences.now.items c.push.new.self.items d c.in_ok-push.ensures.items
    refl refl c.in_ok-try_clone.ensures.same refl refl c.answer_of-before.ensures c.answer_of-after.ensures c.requires.labels c.requires.asked (c.same_answer.ensures.differs c.if-same_answer.false)
