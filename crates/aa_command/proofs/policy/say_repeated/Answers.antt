use Rattle.std.proofs.Common.{◌≡◌, sym}
use Rattle.std.proofs.lemmas.Result.{IfOk-weaker}
use Rattle.aa_command.specs.declared.output.Output.{Output}
use Rattle.aa_command.specs.Printed.{printed, fault_alone}
use Rattle.aa_command.specs.Refusals.{SaysRepeated}
use Rattle.aa_command.proofs.policy.say_repeated.Goals as goal

pub returns-in_ok-fault-in-Some-Some : goal.returns-in_ok-fault-in-Some-Some
returns-in_ok-fault-in-Some-Some c =
    let report = c.in_ok-fault-in-Some-Some.fault in
    IfOk-weaker c.fault_refused.result (λ (o : Output). printed o ≡ fault_alone report 1) (λ (o : Output). SaysRepeated c.args.units.now c.args.name (printed o)) (λ o e. record {
      one = c.in-Some-Some.unit.now;
      is = sym c.in-Some-Some.ensures;
      earlier = c.in-Some-Some.earlier.now;
      earlier_is = sym c.in-Some-Some.ensures';
      says = record { report = report; is_so = c.in_ok-fault-in-Some-Some.ensures; says = e };
    }) c.fault_refused.ensures
