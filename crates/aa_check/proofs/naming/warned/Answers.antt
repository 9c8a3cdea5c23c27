use Rattle.std.proofs.Common.{ap, ◌∙◌, sym, cond, Some, None, length}
use Rattle.std.specs.Prelude.{position}
use Rattle.std.specs.Option.{option_or}
use Rattle.std.specs.List.{list_any}
use Rattle.aa_check.specs.Names.{is_called, has_name}
use Rattle.aa_check.proofs.Firsts.{position_pushed}
use Rattle.aa_check.proofs.naming.warned.Goals as goal

pub returns-clause-known : goal.returns-clause-known
returns-clause-known c = λ name.
    let files = c.args.files.now in
    let n = length files in
    let file = record c.args.file { warnings = c.in_ok-warnings.warnings } in
    c.in_ok-add_names.ensures name
    ∙ ap (λ o. option_or o (cond (list_any (is_called name) c.as_slice.result.now) (Some n) None)) (c.requires name)
    ∙ ap (λ ps. option_or (position (has_name name) files) (cond (list_any (is_called name) ps) (Some n) None)) c.as_slice.ensures.value
    ∙ sym (position_pushed (has_name name) files file)
