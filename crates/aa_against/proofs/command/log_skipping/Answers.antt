use Rattle.std.proofs.Common.{is_some}
use Rattle.std.proofs.lemmas.Result.{IfOk-weaker}
use Rattle.aa_files.specs.Texts.{slices}
use Rattle.aa_command.specs.declared.output.Output.{Output}
use Rattle.aa_command.specs.Setting.{setting_of}
use Rattle.aa_command.specs.Printed.{printed}
use Rattle.aa_log.specs.Refused.{SaysUnreadLog}
use Rattle.aa_log.proofs.Lines.{found_for, unread_for}
use Rattle.aa_against.specs.Command.{IsPartAgainst, IsPartLog, UnreadLog, Found}
use Rattle.aa_against.proofs.command.log_skipping.Goals as goal

pub returns-in-Ok : goal.returns-in-Ok
returns-in-Ok g c =
    let s = setting_of (g.T.Tree.files c.args.tree.now) (g.T.Tree.taken c.args.tree.now) (g.T.Tree.input c.args.tree.now) c.args.settings.now in
    let lying = g.R.Logs.lying c.args.reader.now in
    let o = c.args.options.now in
    let first = c.new-said.result in
    let r = c.read_reports.new.said in
    IfOk-weaker c.replay.result (λ (out : Output). IsPartAgainst s o r (printed out)) (λ (out : Output). IsPartLog s lying o (printed out)) (λ out p.
    Found r (found_for lying first.report.choice o.choice (is_some first.report.each_skipped) o.wants_skipped (slices o.logs.now) r c.new-said.ensures.choice c.new-said.ensures.each c.in-Ok.ensures.found) p) c.replay.ensures

pub returns : goal.returns
returns g c =
    let s = setting_of (g.T.Tree.files c.args.tree.now) (g.T.Tree.taken c.args.tree.now) (g.T.Tree.input c.args.tree.now) c.args.settings.now in
    let lying = g.R.Logs.lying c.args.reader.now in
    let o = c.args.options.now in
    let first = c.new-said.result in
    let unread = c.in-Err.unread in
    IfOk-weaker c.log_refused.result (λ (out : Output). SaysUnreadLog unread.path.now unread.why (printed out)) (λ (out : Output). IsPartLog s lying o (printed out)) (λ out says.
    UnreadLog unread.path.now unread.why
    (unread_for lying first.report.choice o.choice (is_some first.report.each_skipped) o.wants_skipped
    (slices o.logs.now) unread.path.now c.new-said.ensures.choice c.new-said.ensures.each c.in-Err.ensures.unread) says) c.log_refused.ensures
