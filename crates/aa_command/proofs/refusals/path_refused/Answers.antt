use Rattle.std.proofs.Common.{◌≡◌}
use Rattle.std.proofs.lemmas.Result.{IfOk-weaker}
use Rattle.aa_command.specs.declared.output.Output.{Output}
use Rattle.aa_command.specs.Printed.{printed, fault_alone}
use Rattle.aa_command.specs.Refusals.{SaysUnread}
use Rattle.aa_command.proofs.refusals.path_refused.Goals as goal

pub returns-clause-says : goal.returns-clause-says
returns-clause-says c =
    let report = c.in_ok-unreadable.field-0 in
    IfOk-weaker c.fault_refused.result (λ (o : Output). printed o ≡ fault_alone report 3)
    (λ (o : Output). SaysUnread c.args.path.now c.args.why (printed o))
    (λ o e. record { report = report; is_so = c.in_ok-unreadable.ensures; says = e }) c.fault_refused.ensures
