use Rattle.std.proofs.Common.{List, ℕ, Option, sym, ap, ◌∙◌, subst, option_map}
use Rattle.std.proofs.lemmas.Result.{IfOk-weaker}
use Rattle.aa_command.specs.declared.output.Output.{Output}
use Rattle.aa_command.specs.Setting.{setting_of}
use Rattle.aa_command.specs.Printed.{printed}
use Rattle.aa_lint.specs.Command.{IsLintIf, IsLintOutput, IsOutputBy}
use Rattle.aa_lint.proofs.command.lint_files.Goals as goal

pub returns-in-None : goal.returns-in-None
returns-in-None g c =
    let tree = c.args.tree.now in
    let s = setting_of (g.T.Tree.files tree) (g.T.Tree.taken tree) (g.T.Tree.input tree) c.args.settings.now in
    let o = c.args.options.now in
    IfOk-weaker c.lint_if.result (λ (out : Output). IsLintIf s o (option_map (λ path. path.now) o.known) (printed out))
    (λ (out : Output). IsLintOutput s o (printed out))
    (λ out is. subst (λ (name : Option (List ℕ)). IsOutputBy s o name (printed out))
    (sym (ap (option_map (λ b. b.now)) c.in-None.is) ∙ c.first_unknown.ensures) is)
    c.lint_if.ensures
