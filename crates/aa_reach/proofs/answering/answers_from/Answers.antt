use Rattle.std.proofs.Common.{option_map, refl}
use Rattle.aa_files.specs.Texts.{texts}
use Rattle.aa_reach.specs.Answers.{IsAnswer}
use Rattle.aa_reach.proofs.Zipped.{zipped_next}
use Rattle.aa_reach.proofs.answering.answers_from.Goals as goal

pub loop-label-preserved : goal.loop-label-preserved
loop-label-preserved c =
    let b = c.args.beside in
    let targets = option_map (λ ts. ts.now) c.args.targets in
    let Is = IsAnswer c.args.unclean b.course.going.as_enforced b.course.going.policies.now b.skipped.now c.args.limit targets (texts c.args.sought.now) in
    zipped_next Is c.args.labels.now c.loop-label.label-index _ _ c.loop-label.answers.items c.push.new.self.items c.in_ok-answer_from.field-0
    c.loop-label-test.true refl c.in_ok-push.ensures.items c.in_ok-answer_from.ensures c.loop-label.invariant
