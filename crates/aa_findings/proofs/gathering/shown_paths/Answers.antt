use Rattle.std.proofs.Common.{ap, ◌∙◌}
use Rattle.std.specs.List.{flat_map}
use Rattle.aa_findings.specs.Files.{applies_at}
use Rattle.aa_findings.specs.Places.{given_at}
use Rattle.aa_findings.specs.Gathered.{shown_at}
use Rattle.aa_findings.proofs.Placing.{given_placed}
use Rattle.aa_findings.proofs.Applying.{shown_none}
use Rattle.aa_findings.proofs.gathering.shown_paths.Goals as goal

pub returns : goal.returns
returns c =
    let r = c.args.rule.now in
    let rows = c.args.rows.now in
    let f = shown_at c.args.kind r in
    c.in_ok-paths.ensures ∙ ap (flat_map (given_at f rows)) c.requires ∙ given_placed (applies_at r) f rows (λ row. shown_none c.args.kind r row)
