use Rattle.std.proofs.lemmas.Grind.{common_steps}
use Rattle.std.proofs.Common.{arith, Err, sym, ap, ◌∙◌}
use Rattle.aa_command.specs.Printed.{printed}
use Rattle.aa_reach.proofs.Asking.{unnamed_by}
use Rattle.aa_reach.proofs.command.ReachingUsePart.use_part.Goals as goal

pub returns-in-Err-Refused : goal.returns-in-Err-Refused
returns-in-Err-Refused c =
    unnamed_by c.args.self.now.states c.args.self.now.options.now c.args.skipped.now c.args.decided c.asked_of.result c.in-Err-Refused.line
    (printed c.unanswered.result) (sym c.asks_nothing.ensures ∙ c.if-asks_nothing.false)
    (c.in-Err-Refused.is ∙ ap Err c.in-Err-Refused.field-0-is) c.asked_of.ensures.refused (grind (arith, common_steps, c.unanswered.ensures, c.in-Err-Refused.field-0-is))
