use Rattle.std.proofs.Common.{◌≡◌}
use Rattle.std.proofs.lemmas.Result.{IfOk-weaker}
use Rattle.aa_command.specs.declared.output.Output.{Output}
use Rattle.aa_command.specs.Setting.{setting_of}
use Rattle.aa_command.specs.Printed.{printed}
use Rattle.aa_check.specs.Command.{check_printed, IsCheckOutput}
use Rattle.aa_check.proofs.command.check_files.Goals as goal

pub returns : goal.returns
returns g c =
    let s = setting_of (g.T.Tree.files c.args.tree.now) (g.T.Tree.taken c.args.tree.now) (g.T.Tree.input c.args.tree.now) c.args.settings.now in
    IfOk-weaker c.report_printed.result (λ (o : Output). printed o ≡ check_printed c.args.options.now c.in_ok-report.report) (λ (o : Output). IsCheckOutput s c.args.options.now (printed o))
    (λ o e. record { report = c.in_ok-report.report; checked = c.in_ok-report.ensures; printed = e }) c.report_printed.ensures
