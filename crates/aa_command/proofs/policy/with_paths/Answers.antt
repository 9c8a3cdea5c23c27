use Rattle.std.proofs.lemmas.Result.{IfOk-weaker}
use Rattle.aa_files.specs.Texts.{texts}
use Rattle.aa_command.specs.declared.output.Output.{Output}
use Rattle.aa_command.specs.Setting.{setting_of}
use Rattle.aa_command.specs.Printed.{printed}
use Rattle.aa_command.specs.Refusals.{SaysUnitFault}
use Rattle.aa_command.specs.Policies.{IsPrintedAt, Unread}
use Rattle.aa_command.proofs.Outputs.{unit_said_more}
use Rattle.aa_command.proofs.Deciding.{printed_at}
use Rattle.aa_command.proofs.policy.with_paths.Goals as goal

pub returns-in-Ok : goal.returns-in-Ok
returns-in-Ok g c =
    let s = setting_of (g.T.Tree.files c.args.tree.now) (g.T.Tree.taken c.args.tree.now) (g.T.Tree.input c.args.tree.now) c.args.settings.now in
    printed_at s (texts c.args.paths.now) c.in-Ok.units.items c.as_slice.result.now (g.U.Use.gives c.args.user.now) c.with_units.result c.in-Ok.ensures.loaded c.as_slice.ensures.value c.with_units.ensures

pub returns-in-Err : goal.returns-in-Err
returns-in-Err g c =
    let s = setting_of (g.T.Tree.files c.args.tree.now) (g.T.Tree.taken c.args.tree.now) (g.T.Tree.input c.args.tree.now) c.args.settings.now in
    let e = c.in-Err.fault in
    IfOk-weaker c.unit_refused.result (λ (o : Output). SaysUnitFault e (printed o)) (λ (o : Output). IsPrintedAt s (texts c.args.paths.now) (g.U.Use.gives c.args.user.now) (printed o))
    (λ o says. Unread e (c.in-Err.ensures.first (unit_said_more e (printed o) says)) says) c.unit_refused.ensures
