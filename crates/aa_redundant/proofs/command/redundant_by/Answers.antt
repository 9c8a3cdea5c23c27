use Rattle.std.proofs.Common.{List, ℕ, sym, subst}
use Rattle.std.proofs.lemmas.Result.{IfOk-weaker}
use Rattle.aa_files.specs.FilesData.{IsMainText}
use Rattle.aa_command.specs.declared.output.Output.{Output}
use Rattle.aa_command.specs.Setting.{setting_of}
use Rattle.aa_command.specs.Printed.{printed}
use Rattle.aa_command.specs.Refusals.{SaysUnread}
use Rattle.aa_report.specs.Lines.{lines_in}
use Rattle.aa_redundant.specs.Command.{IsRedundantBut, IsRedundantBy, CantRead, Accepted}
use Rattle.aa_redundant.proofs.command.redundant_by.Goals as goal

pub returns-in-Ok : goal.returns-in-Ok
returns-in-Ok g c =
    let tree = c.args.tree.now in
    let s = setting_of (g.T.Tree.files tree) (g.T.Tree.taken tree) (g.T.Tree.input tree) c.args.settings.now in
    let o = c.args.options.now in
    let text = c.as_slice.result.now in
    IfOk-weaker c.redundant_text.result (λ (out : Output). IsRedundantBut s o (lines_in text) (printed out))
    (λ (out : Output). IsRedundantBy s o c.args.path.now (printed out))
    (λ out is. Accepted text (subst (λ (t : List ℕ). IsMainText (g.T.Tree.files tree) (g.T.Tree.input tree) c.args.path.now t)
    (sym c.as_slice.ensures.value) c.in-Ok.ensures) is)
    c.redundant_text.ensures

pub returns-in-Err : goal.returns-in-Err
returns-in-Err g c =
    let tree = c.args.tree.now in
    let s = setting_of (g.T.Tree.files tree) (g.T.Tree.taken tree) (g.T.Tree.input tree) c.args.settings.now in
    let o = c.args.options.now in
    IfOk-weaker c.path_refused.result (λ (out : Output). SaysUnread c.args.path.now c.in-Err.why (printed out))
    (λ (out : Output). IsRedundantBy s o c.args.path.now (printed out))
    (λ out says. CantRead c.in-Err.why c.in-Err.ensures says) c.path_refused.ensures.says
