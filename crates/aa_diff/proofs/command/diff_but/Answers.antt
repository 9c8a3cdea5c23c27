use Rattle.std.specs.Prelude.{[], codes}
use Rattle.std.proofs.lemmas.Result.{IfOk-weaker}
use Rattle.aa_files.specs.Texts.{texts}
use Rattle.aa_command.specs.declared.output.Output.{Output}
use Rattle.aa_command.specs.Setting.{setting_of}
use Rattle.aa_command.specs.Printed.{printed}
use Rattle.aa_diff.specs.Sides.{IsOfSide, IsOfPart}
use Rattle.aa_diff.specs.Command.{IsNewBeside, IsDiffBut}
use Rattle.aa_diff.proofs.Sided.{sided, two_of, part_two, all_side, part_side}
use Rattle.aa_diff.proofs.command.diff_but.Goals as goal

pub returns-then-options : goal.returns-then-options
returns-then-options g c =
    let s = setting_of (g.T.Tree.files c.args.before.now) (g.T.Tree.taken c.args.before.now) (g.T.Tree.input c.args.before.now) c.args.old.now in
    let t = setting_of (g.T.Tree.files c.args.after.now) (g.T.Tree.taken c.args.after.now) (g.T.Tree.input c.args.after.now) c.args.new.now in
    let o = c.args.options.now in
    let gives = IsNewBeside t o in
    IfOk-weaker c.of_side.result (λ (out : Output). IsOfPart (codes "OLD") s (texts o.old.now) gives (printed out)) (λ (out : Output). IsDiffBut s t o (printed out))
    (λ out is. part_side (codes "OLD") s (texts o.old.now) gives o.skips c.if-options.true (printed out) is)
    (sided (codes "OLD") (IsOfPart (codes "OLD") s (texts o.old.now) gives) c.of_side.result (printed c.in_ok-output.output)
    c.of_side.ensures.given c.of_side.ensures.refused (part_two (codes "OLD") s (texts o.old.now) gives (printed c.in_ok-output.output) c.in_ok-output.ensures))

pub returns : goal.returns
returns g c =
    let s = setting_of (g.T.Tree.files c.args.before.now) (g.T.Tree.taken c.args.before.now) (g.T.Tree.input c.args.before.now) c.args.old.now in
    let t = setting_of (g.T.Tree.files c.args.after.now) (g.T.Tree.taken c.args.after.now) (g.T.Tree.input c.args.after.now) c.args.new.now in
    let o = c.args.options.now in
    let gives = IsNewBeside t o in
    IfOk-weaker c.of_side-2.result (λ (out : Output). IsOfSide (codes "OLD") s (texts o.old.now) (gives []) (printed out)) (λ (out : Output). IsDiffBut s t o (printed out))
    (λ out is. all_side (codes "OLD") s (texts o.old.now) gives o.skips c.if-options.false (printed out) is)
    (sided (codes "OLD") (IsOfSide (codes "OLD") s (texts o.old.now) (gives [])) c.of_side-2.result (printed c.in_ok-output-2.output)
    c.of_side-2.ensures.given c.of_side-2.ensures.refused (two_of (codes "OLD") s (texts o.old.now) (gives []) (printed c.in_ok-output-2.output) c.in_ok-output-2.ensures))
