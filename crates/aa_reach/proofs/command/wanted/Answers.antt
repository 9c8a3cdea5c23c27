use Rattle.std.proofs.Common.{ℕ, List, subst}
use Rattle.std.proofs.lemmas.Result.{IfOk-weaker}
use Rattle.aa_model.specs.declared.policy.Policy.{Policy}
use Rattle.aa_command.specs.declared.output.Output.{Output}
use Rattle.aa_command.specs.Printed.{printed}
use Rattle.aa_reach.specs.Command.{IsGraphed, IsReachOf, Graph}
use Rattle.aa_reach.proofs.command.wanted.Goals as goal

pub returns-then-options : goal.returns-then-options
returns-then-options c =
    let o = c.args.options.now in
    let sk = c.args.beside.skipped.now in
    IfOk-weaker c.graphed.result
    (λ (out : Output). IsGraphed c.limit_of-limit.result o c.args.beside.course.going.policies.now sk c.args.asked.now (printed out))
    (λ (out : Output). IsReachOf c.args.states o sk c.args.decided (printed out))
    (λ out is. Graph c.args.asked.now c.requires.asked c.if-options.true
    (subst (λ (k : ℕ). IsGraphed k o c.args.decided.policies.now sk c.args.asked.now (printed out)) c.limit_of-limit.ensures.is
    (subst (λ (ps : List Policy). IsGraphed c.limit_of-limit.result o ps sk c.args.asked.now (printed out)) c.requires.same is))) c.graphed.ensures
