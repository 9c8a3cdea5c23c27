use Rattle.std.proofs.Common.{◌≡◌, ap, ◌∙◌}
use Rattle.std.proofs.lemmas.Result.{IfOk-weaker}
use Rattle.aa_command.specs.declared.output.Output.{Output}
use Rattle.aa_command.specs.Printed.{printed, fault_alone}
use Rattle.aa_command.specs.Refusals.{SaysUnitFault}
use Rattle.aa_command.proofs.Outputs.{unit_said}
use Rattle.aa_command.proofs.refusals.unit_refused.Goals as goal

pub returns : goal.returns
returns c =
    let report = c.in_ok-fault.fault in
    IfOk-weaker c.fault_refused.result (λ (o : Output). printed o ≡ fault_alone report c.status_of.result) (λ (o : Output). SaysUnitFault c.args.fault (printed o))
    (λ o e. unit_said c.args.fault report c.in_ok-fault.is_unread (printed o) c.in_ok-fault.ensures (e ∙ ap (fault_alone report) c.status_of.ensures)) c.fault_refused.ensures
