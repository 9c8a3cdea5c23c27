use Rattle.std.proofs.Common.{ℕ, List, subst}
use Rattle.std.proofs.lemmas.Result.{IfOk-weaker}
use Rattle.aa_model.specs.declared.policy.Policy.{Policy}
use Rattle.aa_command.specs.declared.output.Output.{Output}
use Rattle.aa_command.specs.Printed.{printed}
use Rattle.aa_reach.specs.Command.{IsAnswered, IsPaged, IsReachOf, Answers, Page}
use Rattle.aa_reach.proofs.command.told.Goals as goal

pub returns-then-options : goal.returns-then-options
returns-then-options c =
    let o = c.args.options.now in
    let a = c.args.asked.now in
    let sk = c.args.beside.skipped.now in
    IfOk-weaker c.paged.result (λ (out : Output). IsPaged c.limit_of-limit.result o c.args.beside.course.going.policies.now sk a (printed out))
    (λ (out : Output). IsReachOf c.args.states o sk c.args.decided (printed out))
    (λ out is. Page a c.requires.asked c.requires.no_dot c.if-options.true
    (subst (λ (k : ℕ). IsPaged k o c.args.decided.policies.now sk a (printed out)) c.limit_of-limit.ensures.is
    (subst (λ (ps : List Policy). IsPaged c.limit_of-limit.result o ps sk a (printed out)) c.requires.same is))) c.paged.ensures

pub returns-else-options : goal.returns-else-options
returns-else-options c =
    let o = c.args.options.now in
    let a = c.args.asked.now in
    let sk = c.args.beside.skipped.now in
    IfOk-weaker c.answered.result (λ (out : Output). IsAnswered c.limit_of-limit.result o c.args.beside.course.going.policies.now sk a (printed out))
    (λ (out : Output). IsReachOf c.args.states o sk c.args.decided (printed out))
    (λ out is. Answers a c.requires.some c.requires.asked c.requires.no_dot c.if-options.false
    (subst (λ (k : ℕ). IsAnswered k o c.args.decided.policies.now sk a (printed out)) c.limit_of-limit.ensures.is
    (subst (λ (ps : List Policy). IsAnswered c.limit_of-limit.result o ps sk a (printed out)) c.requires.same is))) c.answered.ensures
