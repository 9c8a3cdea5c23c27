use Rattle.std.proofs.Common.{List, subst}
use Rattle.std.proofs.lemmas.Result.{IfOk-weaker}
use Rattle.aa_files.specs.Texts.{texts}
use Rattle.aa_files.specs.declared.unit.Unit as unit
use Rattle.aa_command.specs.declared.output.Output.{Output}
use Rattle.aa_command.specs.Setting.{setting_of}
use Rattle.aa_command.specs.Printed.{printed}
use Rattle.aa_command.specs.Refusals.{SaysUnitFault}
use Rattle.aa_job.specs.Command.{IsUnitsOutput, IsPathsOutput, NotLoaded, Loaded}
use Rattle.aa_command.proofs.Outputs.{unit_said_more}
use Rattle.aa_job.proofs.Naming.{may_be_policies}
use Rattle.aa_job.proofs.command.job_of_paths.Goals as goal

pub returns-in-Ok : goal.returns-in-Ok
returns-in-Ok g c =
    let s = setting_of (g.T.Tree.files c.args.tree.now) (g.T.Tree.taken c.args.tree.now) (g.T.Tree.input c.args.tree.now) c.args.settings.now in
    let lying = g.R.Logs.lying c.args.reader.now in
    let o = c.args.options.now in
    let counted = may_be_policies c.args.paths.now c.is_policy_count.result c.is_policy_count.ensures c.if-not-is_policy_count.false in
    IfOk-weaker c.job_of_units.result (λ (out : Output). IsUnitsOutput s.folders s.states lying o c.as_slice.result.now (printed out)) (λ (out : Output). IsPathsOutput s lying o (texts c.args.paths.now) (printed out))
    (λ out p. Loaded c.in-Ok.units.items counted c.in-Ok.ensures.loaded (subst (λ (us : List unit.Unit). IsUnitsOutput s.folders s.states lying o us (printed out)) c.as_slice.ensures.value p)) c.job_of_units.ensures

pub returns-in-Err : goal.returns-in-Err
returns-in-Err g c =
    let s = setting_of (g.T.Tree.files c.args.tree.now) (g.T.Tree.taken c.args.tree.now) (g.T.Tree.input c.args.tree.now) c.args.settings.now in
    let e = c.in-Err.fault in
    let counted = may_be_policies c.args.paths.now c.is_policy_count.result c.is_policy_count.ensures c.if-not-is_policy_count.false in
    IfOk-weaker c.unit_refused.result (λ (out : Output). SaysUnitFault e (printed out)) (λ (out : Output). IsPathsOutput s (g.R.Logs.lying c.args.reader.now) c.args.options.now (texts c.args.paths.now) (printed out))
    (λ out says. NotLoaded e counted (c.in-Err.ensures.first (unit_said_more e (printed out) says)) says) c.unit_refused.ensures
