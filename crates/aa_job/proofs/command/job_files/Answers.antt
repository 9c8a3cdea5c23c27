use Rattle.std.proofs.Common.{List, Vec, ℕ, subst, arith}
use Rattle.std.proofs.lemmas.List.{length-map}
use Rattle.std.proofs.lemmas.Result.{IfOk-weaker}
use Rattle.std.specs.declared.alloc.Global.{Global}
use Rattle.aa_files.specs.Texts.{texts}
use Rattle.aa_command.specs.declared.output.Output.{Output}
use Rattle.aa_command.specs.Setting.{setting_of}
use Rattle.aa_command.specs.Printed.{printed}
use Rattle.aa_command.specs.Refusals.{SaysUnitFault}
use Rattle.aa_job.specs.Command.{IsPathsOutput, IsJobOutput, NoRoots, Rooted}
use Rattle.aa_job.proofs.command.job_files.Goals as goal

pub returns-in-Ok : goal.returns-in-Ok
returns-in-Ok g c =
    let s = setting_of (g.T.Tree.files c.args.tree.now) (g.T.Tree.taken c.args.tree.now) (g.T.Tree.input c.args.tree.now) c.args.settings.now in
    let lying = g.R.Logs.lying c.args.reader.now in
    let o = c.args.options.now in
    let roots = c.in-Ok.roots in
    IfOk-weaker c.job_of_paths.result (λ (out : Output). IsPathsOutput s lying o (texts c.as_slice.result.now) (printed out)) (λ (out : Output). IsJobOutput s lying o (printed out))
    (λ out p. Rooted (texts roots.paths.items) (texts roots.warnings.items) (record {
      few = omega (arith, length-map roots.paths.items (λ v. v.items), c.in-Ok.ensures.few);
      paths_are = c.in-Ok.ensures.paths;
      warnings_are = c.in-Ok.ensures.warnings;
    }) (subst (λ (l : List (Vec ℕ Global)). IsPathsOutput s lying o (texts l) (printed out)) c.as_slice.ensures.value p)) c.job_of_paths.ensures

pub returns-in-Err : goal.returns-in-Err
returns-in-Err g c =
    let s = setting_of (g.T.Tree.files c.args.tree.now) (g.T.Tree.taken c.args.tree.now) (g.T.Tree.input c.args.tree.now) c.args.settings.now in
    let e = c.in-Err.fault in
    IfOk-weaker c.unit_refused.result (λ (out : Output). SaysUnitFault e (printed out)) (λ (out : Output). IsJobOutput s (g.R.Logs.lying c.args.reader.now) c.args.options.now (printed out))
    (λ out says. NoRoots e c.in-Err.ensures.fault says) c.unit_refused.ensures
