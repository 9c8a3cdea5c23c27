use Rattle.std.proofs.Common.{◌≡◌}
use Rattle.std.proofs.lemmas.Result.{IfOk-weaker}
use Rattle.aa_command.specs.declared.output.Output.{Output}
use Rattle.aa_command.specs.Printed.{printed, fault_alone}
use Rattle.aa_ask.specs.Refused.{SaysTooLarge}
use Rattle.aa_ask.proofs.refused.limit_refused.Goals as goal

pub returns : goal.returns
returns c =
    let report = c.in_ok-report.report in
    IfOk-weaker c.fault_refused.result (λ (o : Output). printed o ≡ fault_alone report 3)
    (λ (o : Output). SaysTooLarge c.args.path.now c.args.message.now (printed o))
    (λ o e. record { report = report; is_so = c.in_ok-report.ensures; says = e }) c.fault_refused.ensures
