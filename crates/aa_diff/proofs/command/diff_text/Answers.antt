use Rattle.std.proofs.Common.{ap, ◌∙◌}
use Rattle.std.proofs.lemmas.Result.{IfOk-weaker}
use Rattle.aa_files.specs.Texts.{texts}
use Rattle.aa_command.specs.declared.output.Output.{Output}
use Rattle.aa_command.specs.Setting.{setting_of}
use Rattle.aa_command.specs.Printed.{printed}
use Rattle.aa_diff.specs.Command.{IsDiffBut, accepting, IsDiffBy, Accepted}
use Rattle.aa_diff.proofs.command.diff_text.Goals as goal

pub returns : goal.returns
returns g c =
    let s = setting_of (g.T.Tree.files c.args.before.now) (g.T.Tree.taken c.args.before.now) (g.T.Tree.input c.args.before.now) c.args.old.now in
    let t = setting_of (g.T.Tree.files c.args.after.now) (g.T.Tree.taken c.args.after.now) (g.T.Tree.input c.args.after.now) c.args.new.now in
    let o = c.args.options.now in
    let lines = c.as_slice.result in
    IfOk-weaker c.diff_accepting.result (λ (out : Output). IsDiffBut s t (accepting o lines) (printed out)) (λ (out : Output). IsDiffBy s t o c.args.path.now (printed out))
    (λ out is. Accepted c.args.text.now c.requires lines (ap texts c.as_slice.ensures.value ∙ c.in_ok-accepted.ensures) is) c.diff_accepting.ensures
