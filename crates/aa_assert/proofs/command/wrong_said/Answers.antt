use Rattle.std.proofs.Common.{◌≡◌}
use Rattle.std.proofs.lemmas.Result.{IfOk-weaker}
use Rattle.aa_command.specs.declared.output.Output.{Output}
use Rattle.aa_command.specs.Printed.{printed, fault_alone}
use Rattle.aa_command.specs.Refusals.{SaysFault}
use Rattle.aa_claims.specs.Reports.{IsClaimReport}
use Rattle.aa_assert.proofs.command.wrong_said.Goals as goal

pub returns : goal.returns
returns c =
    IfOk-weaker c.fault_refused.result (λ (out : Output). printed out ≡ fault_alone c.in_ok-report.report 1)
    (λ (out : Output). SaysFault (IsClaimReport c.args.path.now c.args.text.now c.args.at c.args.wrong.now) 1 (printed out))
    (λ out says. record { report = c.in_ok-report.report; is_so = c.in_ok-report.ensures; says = says }) c.fault_refused.ensures
