use Rattle.std.proofs.Common.{List, ℕ, ap, ◌∙◌, subst}
use Rattle.std.specs.Prelude.{IfOk}
use Rattle.aa_files.specs.Texts.{slices}
use Rattle.aa_command.specs.declared.output.Output.{Output}
use Rattle.aa_command.specs.Setting.{setting_of}
use Rattle.aa_command.specs.Printed.{printed}
use Rattle.aa_redundant.specs.Command.{IsRedundantBut}
use Rattle.aa_redundant.proofs.command.redundant_text.Goals as goal

pub returns : goal.returns
returns g c =
    let tree = c.args.tree.now in
    let s = setting_of (g.T.Tree.files tree) (g.T.Tree.taken tree) (g.T.Tree.input tree) c.args.settings.now in
    subst (λ (lines : List (List ℕ)). IfOk c.redundant_but.result (λ (out : Output). IsRedundantBut s c.args.options.now lines (printed out)))
    (ap slices c.as_slice.ensures.value ∙ c.in_ok-lines.ensures) c.redundant_but.ensures
