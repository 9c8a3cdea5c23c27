use Rattle.std.proofs.Common.{◌≡◌, refl, length}
use Rattle.std.specs.Prelude.{codes}
use Rattle.std.proofs.lemmas.Result.{IfOk-weaker}
use Rattle.aa_command.specs.declared.output.Output.{Output}
use Rattle.aa_command.specs.Printed.{printed}
use Rattle.aa_diff.specs.declared.part.Part.{Part}
use Rattle.aa_diff.specs.Sides.{noted}
use Rattle.aa_diff.specs.Command.{IsComparedBeside}
use Rattle.aa_diff.proofs.command.compare_beside.Goals as goal

pub returns-clause-compared : goal.returns-clause-compared
returns-clause-compared c =
    let part : Part = record { decided = c.args.decided; skipped = c.args.skipped } in
    IfOk-weaker c.note.result (λ (out : Output). printed out ≡ noted (codes "NEW") (length c.args.skipped.now) (printed c.in_ok-own.own))
    (λ (out : Output). IsComparedBeside c.args.options.now c.args.states c.args.old c.args.skipped.now c.args.decided (printed out))
    (λ out is. record { part = part; is_part = (refl, refl); own = printed c.in_ok-own.own; compared = c.in_ok-own.ensures.compared; is = is }) c.note.ensures
