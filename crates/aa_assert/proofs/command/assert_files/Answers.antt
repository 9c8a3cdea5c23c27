use Rattle.std.proofs.Common.{ℕ, List, sym, subst}
use Rattle.std.proofs.lemmas.Result.{IfOk-weaker}
use Rattle.aa_files.specs.FilesData.{IsMainText}
use Rattle.aa_command.specs.declared.output.Output.{Output}
use Rattle.aa_command.specs.Setting.{setting_of}
use Rattle.aa_command.specs.Printed.{printed}
use Rattle.aa_command.specs.Refusals.{SaysUnread}
use Rattle.aa_assert.specs.Command.{IsAssertOutput, CantRead}
use Rattle.aa_assert.proofs.command.assert_files.Goals as goal

pub assert_text-requires : goal.assert_text-requires
assert_text-requires g c =
    subst (λ (text : List ℕ). IsMainText (g.T.Tree.files c.args.tree.now) (g.T.Tree.input c.args.tree.now) c.args.options.now.claims.now text)
    (sym c.as_slice.ensures.value) c.in-Ok.ensures

pub returns-in-Err : goal.returns-in-Err
returns-in-Err g c =
    let s = setting_of (g.T.Tree.files c.args.tree.now) (g.T.Tree.taken c.args.tree.now) (g.T.Tree.input c.args.tree.now) c.args.settings.now in
    let o = c.args.options.now in
    IfOk-weaker c.path_refused.result
    (λ (out : Output). SaysUnread o.claims.now c.in-Err.why (printed out)) (λ (out : Output). IsAssertOutput s o (printed out))
    (λ out says. CantRead c.in-Err.why c.in-Err.ensures says) c.path_refused.ensures.says
