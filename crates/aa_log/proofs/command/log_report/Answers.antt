use Rattle.std.proofs.Common.{◌≡◌, ℕ, List}
use Rattle.std.proofs.lemmas.Result.{IfOk-weaker}
use Rattle.aa_files.specs.Texts.{texts}
use Rattle.aa_command.specs.declared.output.Output.{Output}
use Rattle.aa_command.specs.Setting.{setting_of}
use Rattle.aa_command.specs.Printed.{printed}
use Rattle.aa_command.specs.Policies.{IsPrintedFor}
use Rattle.aa_log.specs.Command.{said_printed, IsLogText, IsReplayed, IsReportOutput, Said, Replayed}
use Rattle.aa_log.proofs.command.log_report.Goals as goal

pub returns-then-is_none_named : goal.returns-then-is_none_named
returns-then-is_none_named g c =
    let s = setting_of (g.T.Tree.files c.args.tree.now) (g.T.Tree.taken c.args.tree.now) (g.T.Tree.input c.args.tree.now) c.args.settings.now in
    let o = c.args.options.now in
    let r = c.args.said.now in
    IfOk-weaker c.report_printed.result (λ (out : Output). (text : List ℕ) × IsLogText o r text × (printed out ≡ said_printed o r text 0)) (λ (out : Output). IsReportOutput s o r (printed out))
    (λ out t. Said t.0 (c.is_none_named.ensures.none c.if-is_none_named.true) t.1 t.2) c.report_printed.ensures

pub returns : goal.returns
returns g c =
    let s = setting_of (g.T.Tree.files c.args.tree.now) (g.T.Tree.taken c.args.tree.now) (g.T.Tree.input c.args.tree.now) c.args.settings.now in
    let o = c.args.options.now in
    let r = c.args.said.now in
    IfOk-weaker c.with_policy.result (λ (out : Output). IsPrintedFor s (texts o.against.now) (IsReplayed o r) (printed out)) (λ (out : Output). IsReportOutput s o r (printed out))
    (λ out p. Replayed (c.is_none_named.ensures.some c.if-is_none_named.false) p) c.with_policy.ensures
