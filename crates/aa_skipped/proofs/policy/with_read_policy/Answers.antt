use Rattle.std.proofs.Common.{◌≡◌, ℕ, List, Vec, ap, subst, ◌∙◌, arith}
use Rattle.std.specs.declared.alloc.Global.{Global}
use Rattle.std.proofs.lemmas.List.{length-map}
use Rattle.std.proofs.lemmas.Result.{IfOk-weaker}
use Rattle.aa_files.specs.Texts.{texts}
use Rattle.aa_command.specs.declared.output.Output.{Output}
use Rattle.aa_command.specs.Setting.{setting_of}
use Rattle.aa_command.specs.Printed.{Printed, printed}
use Rattle.aa_command.specs.Refusals.{SaysUnitFault}
use Rattle.aa_command.specs.Policies.{behind_warnings}
use Rattle.aa_skipped.specs.Policies.{IsPrintedSkipping, IsPrintedOf, NoRoots, Rooted}
use Rattle.aa_skipped.proofs.policy.with_read_policy.Goals as goal

pub returns-in_ok-behind_warnings-in-Ok : goal.returns-in_ok-behind_warnings-in-Ok
returns-in_ok-behind_warnings-in-Ok g c =
    let s = setting_of (g.T.Tree.files c.args.tree.now) (g.T.Tree.taken c.args.tree.now) (g.T.Tree.input c.args.tree.now) c.args.settings.now in
    let roots = c.in-Ok.roots in
    let own : Printed = printed c.in_ok-own-in-Ok.own in
    Rooted (texts roots.paths.items) (texts roots.warnings.items) own (record {
      few = omega (arith, length-map roots.paths.items (λ v. v.items), c.in-Ok.ensures.few);
      paths_are = c.in-Ok.ensures.paths;
      warnings_are = c.in-Ok.ensures.warnings;
    }) (subst (λ (ps : List (Vec ℕ Global)). IsPrintedSkipping s (texts ps) (g.U.UsePart.gives c.args.user.now) own) c.as_slice.ensures.value c.in_ok-own-in-Ok.ensures)
    (c.in_ok-behind_warnings-in-Ok.ensures ∙ ap (λ (ws : List (Vec ℕ Global)). behind_warnings (texts ws) own) c.as_slice-in-Ok.ensures.value)

pub returns-in-Err : goal.returns-in-Err
returns-in-Err g c =
    let s = setting_of (g.T.Tree.files c.args.tree.now) (g.T.Tree.taken c.args.tree.now) (g.T.Tree.input c.args.tree.now) c.args.settings.now in
    let e = c.in-Err.fault in
    IfOk-weaker c.unit_refused.result (λ (out : Output). SaysUnitFault e (printed out)) (λ (out : Output). IsPrintedOf s (texts c.args.arguments.now) (g.U.UsePart.gives c.args.user.now) (printed out))
    (λ out says. NoRoots e c.in-Err.ensures.fault says) c.unit_refused.ensures
