use Rattle.std.proofs.Common.{ap, ◌∙◌, max}
use Rattle.aa_compile.proofs.AttachLemmas.{longest_step}
use Rattle.aa_compile.proofs.attach.longest_front.Goals as goal

pub loop-number-preserved : goal.loop-number-preserved
loop-number-preserved c =
    longest_step c.args.attachments.now c.args.numbers.now c.loop-number.number-index c.loop-number.front _ _ c.loop-number-test.true
    (c.max-front.ensures ∙ ap (max c.loop-number.front) c.front_of.ensures) c.loop-number.invariant
