use Rattle.std.proofs.Common.{ap, ◌∙◌}
use Rattle.std.proofs.lemmas.Result.{IfErr-weaker}
use Rattle.aa_auto.specs.Nodes.{pointed}
use Rattle.aa_findings.specs.declared.fault.FindingsFault.{FindingsFault}
use Rattle.aa_findings.specs.Faults.{IsFaultOf}
use Rattle.aa_findings.specs.Rows.{HasNoRows}
use Rattle.aa_findings.proofs.Standing.{no_rows}
use Rattle.aa_findings.proofs.rows.regions_of_rules.Goals as goal

pub returns-clause-many : goal.returns-clause-many
returns-clause-many c =
    let patterns = pointed c.as_slice.result.now in
    IfErr-weaker c.regions_by.result (λ (e : FindingsFault). IsFaultOf patterns c.args.limit e) (λ (e : FindingsFault). HasNoRows c.args.rules.now c.args.limit e)
    (λ e why. no_rows c.args.rules.now c.args.all.now patterns c.args.limit e (ap pointed c.as_slice.ensures.value ∙ c.in_ok-patterns.ensures) c.requires.all why) c.regions_by.ensures.many
