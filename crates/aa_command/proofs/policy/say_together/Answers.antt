use Rattle.std.proofs.Common.{◌≡◌, sym}
use Rattle.std.proofs.lemmas.Result.{IfOk-weaker}
use Rattle.aa_command.specs.declared.output.Output.{Output}
use Rattle.aa_command.specs.Printed.{printed, fault_alone}
use Rattle.aa_command.specs.Refusals.{SaysTogether}
use Rattle.aa_command.proofs.policy.say_together.Goals as goal

pub returns-in_ok-fault-in-Some : goal.returns-in_ok-fault-in-Some
returns-in_ok-fault-in-Some c =
    let report = c.in_ok-fault-in-Some.fault in
    IfOk-weaker c.fault_refused.result (λ (o : Output). printed o ≡ fault_alone report 1) (λ (o : Output). SaysTogether c.args.settings.now.states c.args.units.now c.args.number c.args.kind (printed o)) (λ o e. record {
      one = c.in-Some.unit.now;
      is = sym c.in-Some.ensures;
      says = record { report = report; is_so = c.in_ok-fault-in-Some.ensures; says = e };
    }) c.fault_refused.ensures
