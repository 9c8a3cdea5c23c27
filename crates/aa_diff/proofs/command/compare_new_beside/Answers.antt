use Rattle.std.proofs.Common.{◌≡◌, refl, length}
use Rattle.std.specs.Prelude.{codes}
use Rattle.std.proofs.lemmas.Result.{IfOk-weaker}
use Rattle.aa_command.specs.declared.output.Output.{Output}
use Rattle.aa_command.specs.Setting.{setting_of}
use Rattle.aa_command.specs.Printed.{printed}
use Rattle.aa_diff.specs.declared.part.Part.{Part}
use Rattle.aa_diff.specs.Sides.{noted}
use Rattle.aa_diff.specs.Command.{IsNewBeside}
use Rattle.aa_diff.proofs.command.compare_new_beside.Goals as goal

pub returns-clause-of : goal.returns-clause-of
returns-clause-of g c =
    let t = setting_of (g.T.Tree.files c.args.tree.now) (g.T.Tree.taken c.args.tree.now) (g.T.Tree.input c.args.tree.now) c.args.settings.now in
    let part : Part = record { decided = c.args.decided; skipped = c.args.skipped } in
    IfOk-weaker c.note.result (λ (out : Output). printed out ≡ noted (codes "OLD") (length c.args.skipped.now) (printed c.in_ok-own.own))
    (λ (out : Output). IsNewBeside t c.args.options.now c.args.skipped.now c.args.decided (printed out))
    (λ out is. record { part = part; is_part = (refl, refl); own = printed c.in_ok-own.own; new_side = c.in_ok-own.ensures.of; is = is }) c.note.ensures
