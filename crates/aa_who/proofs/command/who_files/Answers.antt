use Rattle.std.proofs.Common.{arith}
use Rattle.std.proofs.lemmas.Result.{IfOk-weaker}
use Rattle.aa_command.specs.declared.output.Output.{Output}
use Rattle.aa_command.specs.Setting.{setting_of}
use Rattle.aa_command.specs.Printed.{printed}
use Rattle.aa_who.specs.Command.{IsWhoBy, IsWhoOutput, Few}
use Rattle.aa_who.proofs.command.who_files.Goals as goal

pub returns : goal.returns
returns g c =
    let s = setting_of (g.T.Tree.files c.args.tree.now) (g.T.Tree.taken c.args.tree.now) (g.T.Tree.input c.args.tree.now) c.args.settings.now in
    let o = c.args.options.now in
    IfOk-weaker c.who_by.result (λ (out : Output). IsWhoBy s o (printed out)) (λ (out : Output). IsWhoOutput s o (printed out))
    (λ out is. Few (omega arith) is) c.who_by.ensures
