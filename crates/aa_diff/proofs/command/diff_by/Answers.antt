use Rattle.std.proofs.Common.{List, ℕ, sym, subst}
use Rattle.std.proofs.lemmas.Result.{IfOk-weaker}
use Rattle.aa_files.specs.FilesData.{IsMainText}
use Rattle.aa_command.specs.declared.output.Output.{Output}
use Rattle.aa_command.specs.Setting.{setting_of}
use Rattle.aa_command.specs.Printed.{printed}
use Rattle.aa_command.specs.Refusals.{SaysUnread}
use Rattle.aa_diff.specs.Command.{IsDiffBy, CantRead}
use Rattle.aa_diff.proofs.command.diff_by.Goals as goal

pub diff_text-requires : goal.diff_text-requires
diff_text-requires g c =
    subst (λ (t : List ℕ). IsMainText (g.T.Tree.files c.args.after.now) (g.T.Tree.input c.args.after.now) c.args.path.now t) (sym c.as_slice.ensures.value) c.in-Ok.ensures

pub returns-in-Err : goal.returns-in-Err
returns-in-Err g c =
    let s = setting_of (g.T.Tree.files c.args.before.now) (g.T.Tree.taken c.args.before.now) (g.T.Tree.input c.args.before.now) c.args.old.now in
    let t = setting_of (g.T.Tree.files c.args.after.now) (g.T.Tree.taken c.args.after.now) (g.T.Tree.input c.args.after.now) c.args.new.now in
    let o = c.args.options.now in
    IfOk-weaker c.path_refused.result (λ (out : Output). SaysUnread c.args.path.now c.in-Err.why (printed out)) (λ (out : Output). IsDiffBy s t o c.args.path.now (printed out))
    (λ out says. CantRead c.in-Err.why c.in-Err.ensures says) c.path_refused.ensures.says
