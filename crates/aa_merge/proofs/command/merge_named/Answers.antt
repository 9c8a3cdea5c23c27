use Rattle.std.proofs.lemmas.Result.{IfOk-weaker}
use Rattle.aa_files.specs.Texts.{texts}
use Rattle.aa_command.specs.Printed.{printed}
use Rattle.aa_merge.proofs.Merged.{together_out, unmerged_out}
use Rattle.aa_merge.proofs.command.merge_named.Goals as goal

pub returns-in-Ok : goal.returns-in-Ok
returns-in-Ok g c =
    let files = g.P.Parts.parts c.args.parts.now in
    IfOk-weaker c.together_printed.result _ _
    (λ out p. together_out files c.args.is_json (texts c.args.paths.now) c.in-Ok.merging (printed out) c.in-Ok.ensures.merged p) c.together_printed.ensures

pub returns-in-Err : goal.returns-in-Err
returns-in-Err g c =
    let files = g.P.Parts.parts c.args.parts.now in
    IfOk-weaker c.unmerged_printed.result _ _
    (λ out says. unmerged_out files c.args.is_json (texts c.args.paths.now) c.in-Err.unmerged
    (printed out) c.in-Err.ensures.not says) c.unmerged_printed.ensures
