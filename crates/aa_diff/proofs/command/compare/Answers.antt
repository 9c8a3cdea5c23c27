use Rattle.std.proofs.Common.{◌≡◌, List, Option, Bor, sym, ap, ◌∙◌}
use Rattle.std.specs.Prelude.{ℕ, option_map}
use Rattle.std.proofs.lemmas.Result.{IfOk-weaker}
use Rattle.aa_command.specs.declared.output.Output.{Output}
use Rattle.aa_command.specs.Printed.{printed, faults_alone}
use Rattle.aa_ask.specs.Asked.{no_profile}
use Rattle.aa_diff.specs.Command.{AreCompared, IsCompared, Unnamed, Named}
use Rattle.aa_diff.proofs.command.compare.Goals as goal

pub returns-in-Some-clause-compared : goal.returns-in-Some-clause-compared
returns-in-Some-clause-compared c =
    IfOk-weaker c.say_unnamed.result (λ (out : Output). printed out ≡ faults_alone (no_profile c.in-Some.name.now) 1) (λ (out : Output). IsCompared c.args.options.now c.args.states c.args.old c.args.new (printed out))
    (λ out is. Unnamed c.in-Some.name.now (sym c.in_ok-name.ensures ∙ ap (option_map (λ (n : Bor (List ℕ)). n.now)) c.in-Some.is) is) c.say_unnamed.ensures

pub returns-in-None-clause-compared : goal.returns-in-None-clause-compared
returns-in-None-clause-compared c =
    IfOk-weaker c.compare_all.result (λ (out : Output). AreCompared c.args.options.now c.args.states c.args.old c.args.new (printed out)) (λ (out : Output). IsCompared c.args.options.now c.args.states c.args.old c.args.new (printed out))
    (λ out are. Named (sym c.in_ok-name.ensures ∙ ap (option_map (λ (n : Bor (List ℕ)). n.now)) c.in-None.is) are) c.compare_all.ensures.compared
