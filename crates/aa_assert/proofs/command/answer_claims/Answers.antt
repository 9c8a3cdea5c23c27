use Rattle.std.proofs.Common.{Bool, sym, subst}
use Rattle.std.specs.Prelude.{[], MatchBool}
use Rattle.std.proofs.lemmas.Result.{IfOk-weaker}
use Rattle.aa_files.specs.Texts.{texts}
use Rattle.aa_command.specs.declared.output.Output.{Output}
use Rattle.aa_command.specs.Setting.{setting_of}
use Rattle.aa_command.specs.Printed.{printed}
use Rattle.aa_command.specs.Policies.{IsPrintedFor}
use Rattle.aa_skipped.specs.Policies.{IsPrintedOf}
use Rattle.aa_assert.specs.Command.{IsAssertOf, IsAssertBy}
use Rattle.aa_assert.proofs.command.answer_claims.Goals as goal

pub returns-then-options : goal.returns-then-options
returns-then-options g c =
    let s = setting_of (g.T.Tree.files c.args.tree.now) (g.T.Tree.taken c.args.tree.now) (g.T.Tree.input c.args.tree.now) c.args.settings.now in
    let o = c.args.options.now in
    let files = texts o.files.now in
    IfOk-weaker c.with_read_policy.result (λ (out : Output). IsPrintedOf s files (IsAssertOf s.states o c.args.text.now c.args.claims.now) (printed out))
    (λ (out : Output). IsAssertBy s o c.args.text.now c.args.claims.now (printed out))
    (λ out is. subst
    (λ (b : Bool). MatchBool b (IsPrintedOf s files (IsAssertOf s.states o c.args.text.now c.args.claims.now) (printed out))
    (IsPrintedFor s files (IsAssertOf s.states o c.args.text.now c.args.claims.now []) (printed out)))
    (sym c.if-options.true) is)
    c.with_read_policy.ensures

pub returns : goal.returns
returns g c =
    let s = setting_of (g.T.Tree.files c.args.tree.now) (g.T.Tree.taken c.args.tree.now) (g.T.Tree.input c.args.tree.now) c.args.settings.now in
    let o = c.args.options.now in
    let files = texts o.files.now in
    IfOk-weaker c.with_policy.result (λ (out : Output). IsPrintedFor s files (IsAssertOf s.states o c.args.text.now c.args.claims.now []) (printed out))
    (λ (out : Output). IsAssertBy s o c.args.text.now c.args.claims.now (printed out))
    (λ out is. subst
    (λ (b : Bool). MatchBool b (IsPrintedOf s files (IsAssertOf s.states o c.args.text.now c.args.claims.now) (printed out))
    (IsPrintedFor s files (IsAssertOf s.states o c.args.text.now c.args.claims.now []) (printed out)))
    (sym c.if-options.false) is)
    c.with_policy.ensures
