use Rattle.std.proofs.Common.{List, Contains, subst}
use Rattle.std.specs.Prelude.{IfSome}
use Rattle.aa_model.specs.declared.rule.ChangeRule.{ChangeRule}
use Rattle.aa_model.specs.declared.request.Request.{Request}
use Rattle.aa_reachability.specs.Single.{IsChangeOfOne}
use Rattle.aa_reachability.proofs.changes.few_changes.Goals as goal

pub returns-clause-each : goal.returns-clause-each
returns-clause-each c =
    subst (λ (rules : List ChangeRule). IfSome c.in_ok-changes.changes (λ rs. (r : Request) → Contains rs.items r → IsChangeOfOne rules r))
    c.as_slice.ensures c.in_ok-changes.ensures.each
