use Rattle.std.proofs.Common.{◌≡◌}
use Rattle.std.proofs.lemmas.Result.{IfOk-weaker}
use Rattle.aa_files.specs.Texts.{slices}
use Rattle.aa_command.specs.declared.output.Output.{Output}
use Rattle.aa_command.specs.Printed.{printed, fault_alone}
use Rattle.aa_command.specs.Refusals.{SaysPolicyFault}
use Rattle.aa_command.proofs.refusals.policy_refused.Goals as goal

pub returns-clause-says : goal.returns-clause-says
returns-clause-says c =
    let report = c.in_ok-report.report in
    IfOk-weaker c.fault_refused.result (λ (o : Output). printed o ≡ fault_alone report 1)
    (λ (o : Output). SaysPolicyFault (slices c.args.settings.now.folders.now) c.args.settings.now.states c.args.unit.now c.args.fault (printed o))
    (λ o e. record { report = report; is_so = c.in_ok-report.ensures; says = e }) c.fault_refused.ensures
