use Rattle.std.proofs.Common.{rules}
use Rattle.aa_diff.specs.Order.{finding_cmp}
use Rattle.aa_diff.proofs.Placing.{finding_total}
use Rattle.aa_diff.proofs.Sorting.{sorted_by_cmp}
use Rattle.aa_diff.proofs.order.in_order.Goals as goal

pub returns : goal.returns
returns c =
    let ps = c.args.policies.now in
    sorted_by_cmp (finding_cmp ps) (finding_total ps) _ _ c.in_ok-sort_by.ensures.sorted c.in_ok-sort_by.ensures.stable (λ a r f' k. search rules)
