use Rattle.std.proofs.Common.{ℕ, List, map, Err, ap, ◌∙◌}
use Rattle.aa_command.specs.Printed.{printed}
use Rattle.aa_who.specs.declared.answering.WordAnswer.{WordAnswer}
use Rattle.aa_who.specs.Answers.{answered}
use Rattle.aa_who.specs.Command.{who_printed, Answers}
use Rattle.aa_who.proofs.Printing.{unanswered_by}
use Rattle.aa_who.proofs.command.AskingUsePart.use_part.Goals as goal
use Rattle.aa_command.specs.Counts.{passed_in}

pub returns-in_ok-output_of-in-Ok : goal.returns-in_ok-output_of-in-Ok
returns-in_ok-output_of-in-Ok c =
    Answers (map answered c.in-Ok.answers.items) c.in-Ok.ensures.answered
    (c.in_ok-output_of-in-Ok.ensures
    ∙ ap (λ (n : ℕ). who_printed c.args.self.now.options.now n c.args.skipped.now (map answered c.as_slice-answers.result.now)) c.passed_in-passed.ensures
    ∙ ap (λ (l : List WordAnswer). who_printed c.args.self.now.options.now (passed_in c.args.decided.policies.now) c.args.skipped.now (map answered l)) c.as_slice-answers.ensures.value)

pub returns-in-Err-Refused : goal.returns-in-Err-Refused
returns-in-Err-Refused c =
    unanswered_by c.args.self.now.states c.args.self.now.options.now c.args.skipped.now c.args.decided c.answers_to.result c.in-Err-Refused.line (printed c.unanswered.result)
    (c.in-Err-Refused.is ∙ ap Err c.in-Err-Refused.field-0-is) c.answers_to.ensures.refused c.unanswered.ensures
