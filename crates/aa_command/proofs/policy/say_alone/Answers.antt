use Rattle.std.proofs.Common.{sym}
use Rattle.std.proofs.lemmas.Result.{IfOk-weaker}
use Rattle.aa_files.specs.Texts.{slices}
use Rattle.aa_command.specs.declared.output.Output.{Output}
use Rattle.aa_command.specs.Printed.{printed}
use Rattle.aa_command.specs.Refusals.{SaysPolicyFault, SaysAlone}
use Rattle.aa_command.proofs.policy.say_alone.Goals as goal

pub returns-in-Some : goal.returns-in-Some
returns-in-Some c =
    let folders = slices c.args.settings.now.folders.now in
    let states = c.args.settings.now.states in
    IfOk-weaker c.policy_refused.result (λ (o : Output). SaysPolicyFault folders states c.in-Some.unit.now c.args.fault (printed o))
    (λ (o : Output). SaysAlone folders states c.args.units.now c.args.number c.args.fault (printed o)) (λ o says. record {
      one = c.in-Some.unit.now;
      is = sym c.in-Some.ensures;
      says = says;
    }) c.policy_refused.ensures.says
