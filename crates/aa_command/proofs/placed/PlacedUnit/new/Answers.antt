use Rattle.std.proofs.Common.{◌∙◌}
use Rattle.aa_command.proofs.Placing.{text_more, one_more}
use Rattle.aa_command.proofs.placed.PlacedUnit.new.Goals as goal

pub loop-number-preserved : goal.loop-number-preserved
loop-number-preserved c =
    let i = c.loop-number.invariant in
    let number = c.loop-number.number in (
      one_more c.loop-number.texts.items c.push.new.self.items _ number i.0 c.in_ok-push.ensures.items,
      text_more c.args.unit.now c.loop-number.texts.items c.push.new.self.items _ number i.0 c.in_ok-push.ensures.items (c.in_ok-new.ensures ∙ c.text_at.ensures.text) i.1,
    )
