use Rattle.std.proofs.Common.{ap, ◌∙◌}
use Rattle.std.specs.List.{list_any}
use Rattle.aa_findings.specs.Files.{applies_at, overrules}
use Rattle.aa_findings.specs.Places.{at_place}
use Rattle.aa_findings.proofs.Placing.{any_placed}
use Rattle.aa_findings.proofs.Applying.{overrules_none}
use Rattle.aa_findings.proofs.files.overrules_one.Goals as goal

pub returns : goal.returns
returns c =
    let r = c.args.rule.now in
    let rows = c.args.rows.now in
    c.overrules_among.ensures ∙ ap (list_any (at_place (overrules r) rows)) c.requires ∙ any_placed (applies_at r) (overrules r) rows (λ row. overrules_none r row)
