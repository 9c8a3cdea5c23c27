use Rattle.std.proofs.Common.{List, ap, ◌∙◌, subst}
use Rattle.std.proofs.lemmas.Result.{IfErr-weaker}
use Rattle.aa_pattern.specs.declared.pattern.Pattern.{Pattern}
use Rattle.aa_auto.specs.Nodes.{pointed}
use Rattle.aa_representatives.specs.Alike.{change_patterns}
use Rattle.aa_redundancy.specs.declared.fault.RedundancyFault.{RedundancyFault}
use Rattle.aa_redundancy.specs.Faults.{IsFaultOf}
use Rattle.aa_redundancy.proofs.names.regions_of_names.Goals as goal

pub returns-clause-many : goal.returns-clause-many
returns-clause-many c =
    let patterns = pointed c.as_slice.result.now in
    IfErr-weaker c.name_regions_by.result (λ (e : RedundancyFault). IsFaultOf patterns c.args.limit e) (λ (e : RedundancyFault). IsFaultOf (change_patterns c.args.rules.now) c.args.limit e)
    (λ e why. subst (λ (ps : List Pattern). IsFaultOf ps c.args.limit e) (ap pointed c.as_slice.ensures.value ∙ c.in_ok-patterns.ensures) why) c.name_regions_by.ensures.many
