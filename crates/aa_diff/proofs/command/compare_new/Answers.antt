use Rattle.std.specs.Prelude.{[], codes}
use Rattle.std.proofs.lemmas.Result.{IfOk-weaker}
use Rattle.aa_files.specs.Texts.{texts}
use Rattle.aa_command.specs.declared.output.Output.{Output}
use Rattle.aa_command.specs.Setting.{setting_of}
use Rattle.aa_command.specs.Printed.{printed}
use Rattle.aa_diff.specs.Sides.{IsOfSide, IsOfPart}
use Rattle.aa_diff.specs.Command.{IsComparedBeside, IsNewSide}
use Rattle.aa_diff.proofs.Sided.{sided, sided_low, two_of, part_two, all_side, part_side}
use Rattle.aa_diff.proofs.command.compare_new.Goals as goal

pub returns-then-options-clause-of : goal.returns-then-options-clause-of
returns-then-options-clause-of g c =
    let s = setting_of (g.T.Tree.files c.args.tree.now) (g.T.Tree.taken c.args.tree.now) (g.T.Tree.input c.args.tree.now) c.args.settings.now in
    let o = c.args.options.now in
    let gives = IsComparedBeside o s.states c.args.old in
    IfOk-weaker c.of_side.result (λ (out : Output). IsOfPart (codes "NEW") s (texts o.new.now) gives (printed out)) (λ (out : Output). IsNewSide s o c.args.old (printed out))
    (λ out is. part_side (codes "NEW") s (texts o.new.now) gives o.skips c.if-options.true (printed out) is)
    (sided (codes "NEW") (IsOfPart (codes "NEW") s (texts o.new.now) gives) c.of_side.result (printed c.in_ok-output.output)
    c.of_side.ensures.given c.of_side.ensures.refused (part_two (codes "NEW") s (texts o.new.now) gives (printed c.in_ok-output.output) c.in_ok-output.ensures))

pub returns-then-options-clause-low : goal.returns-then-options-clause-low
returns-then-options-clause-low g c =
    let s = setting_of (g.T.Tree.files c.args.tree.now) (g.T.Tree.taken c.args.tree.now) (g.T.Tree.input c.args.tree.now) c.args.settings.now in
    let o = c.args.options.now in
    let gives = IsComparedBeside o s.states c.args.old in
    sided_low (codes "NEW") (IsOfPart (codes "NEW") s (texts o.new.now) gives) c.of_side.result (printed c.in_ok-output.output)
    c.of_side.ensures.given c.of_side.ensures.refused (part_two (codes "NEW") s (texts o.new.now) gives (printed c.in_ok-output.output) c.in_ok-output.ensures)

pub returns-clause-of : goal.returns-clause-of
returns-clause-of g c =
    let s = setting_of (g.T.Tree.files c.args.tree.now) (g.T.Tree.taken c.args.tree.now) (g.T.Tree.input c.args.tree.now) c.args.settings.now in
    let o = c.args.options.now in
    let gives = IsComparedBeside o s.states c.args.old in
    IfOk-weaker c.of_side-2.result (λ (out : Output). IsOfSide (codes "NEW") s (texts o.new.now) (gives []) (printed out)) (λ (out : Output). IsNewSide s o c.args.old (printed out))
    (λ out is. all_side (codes "NEW") s (texts o.new.now) gives o.skips c.if-options.false (printed out) is)
    (sided (codes "NEW") (IsOfSide (codes "NEW") s (texts o.new.now) (gives [])) c.of_side-2.result (printed c.in_ok-output-2.output)
    c.of_side-2.ensures.given c.of_side-2.ensures.refused (two_of (codes "NEW") s (texts o.new.now) (gives []) (printed c.in_ok-output-2.output) c.in_ok-output-2.ensures))

pub returns-clause-low : goal.returns-clause-low
returns-clause-low g c =
    let s = setting_of (g.T.Tree.files c.args.tree.now) (g.T.Tree.taken c.args.tree.now) (g.T.Tree.input c.args.tree.now) c.args.settings.now in
    let o = c.args.options.now in
    let gives = IsComparedBeside o s.states c.args.old in
    sided_low (codes "NEW") (IsOfSide (codes "NEW") s (texts o.new.now) (gives [])) c.of_side-2.result (printed c.in_ok-output-2.output)
    c.of_side-2.ensures.given c.of_side-2.ensures.refused (two_of (codes "NEW") s (texts o.new.now) (gives []) (printed c.in_ok-output-2.output) c.in_ok-output-2.ensures)
