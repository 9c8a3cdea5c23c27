use Rattle.std.proofs.Common.{ℕ, List, map, Err, ap, refl, ◌∙◌}
use Rattle.std.proofs.lemmas.Result.{IfOk-weaker}
use Rattle.aa_load.specs.UnitPolicy.{limit_of}
use Rattle.aa_command.specs.declared.output.Output.{Output}
use Rattle.aa_command.specs.Printed.{printed}
use Rattle.aa_command.specs.Refusals.{SaysFault}
use Rattle.aa_claims.specs.Reports.{IsClaimReport}
use Rattle.aa_assert.specs.declared.part.Part.{Part}
use Rattle.aa_assert.specs.declared.answering.Answer.{Answer}
use Rattle.aa_assert.specs.Answers.{answered, IsFirstUnanswered}
use Rattle.aa_assert.specs.Command.{assert_printed, IsAssertOf, Answers, Unanswered}
use Rattle.aa_assert.proofs.Saying.{said_at}
use Rattle.aa_assert.proofs.command.AssertingUsePart.use_part.Goals as goal
use Rattle.aa_command.specs.Counts.{passed_in}

pub returns-in_ok-output_of-in-Ok : goal.returns-in_ok-output_of-in-Ok
returns-in_ok-output_of-in-Ok c =
    let o = c.args.self.now.options.now in
    let ks = c.args.skipped.now in
    Answers (record { decided = c.args.decided; skipped = c.args.skipped; unclean = c.args.self.now.options.now.unclean }) (refl, refl, refl)
    (map answered c.in-Ok.answers.items) c.in-Ok.ensures.answered
    (c.in_ok-output_of-in-Ok.ensures
    ∙ ap (λ (n : ℕ). assert_printed o n ks (map answered c.as_slice-answers.result.now)) c.passed_in-passed.ensures
    ∙ ap (λ (l : List Answer). assert_printed o (passed_in c.args.decided.policies.now) ks (map answered l)) c.as_slice-answers.ensures.value)

pub returns-in-Err-At : goal.returns-in-Err-At
returns-in-Err-At c =
    let a = c.args.self.now in
    let part : Part = record { decided = c.args.decided; skipped = c.args.skipped; unclean = c.args.self.now.options.now.unclean } in
    IfOk-weaker c.wrong_said.result
    (λ (out : Output). SaysFault (IsClaimReport a.options.now.claims.now a.text.now c.in-Err-At.at c.in-Err-At.wrong) 1 (printed out))
    (λ (out : Output). IsAssertOf a.states a.options.now a.text.now a.claims.now c.args.skipped.now c.args.decided (printed out))
    (λ out says. Unanswered part (refl, refl, refl) (record {
      at = c.in-Err-At.at;
      fault = c.in-Err-At.wrong;
      is_so = said_at c.answers_to.result (IsFirstUnanswered a.options.now.is_first part (limit_of a.states) a.claims.now) c.in-Err-At.at c.in-Err-At.wrong
          (c.in-Err-At.is ∙ ap Err c.in-Err-At.field-0-is) c.answers_to.ensures.refused;
      says = says;
    }))
    c.wrong_said.ensures
