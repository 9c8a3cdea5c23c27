use Rattle.std.proofs.Common.{rules}
use Rattle.aa_diff.specs.Rules.{rule_cmp}
use Rattle.aa_diff.proofs.Placing.{rule_total}
use Rattle.aa_diff.proofs.Sorting.{sorted_by_cmp}
use Rattle.aa_diff.proofs.rules.in_places.Goals as goal

pub returns : goal.returns
returns c = sorted_by_cmp rule_cmp rule_total _ _ c.in_ok-sort_by.ensures.sorted c.in_ok-sort_by.ensures.stable (λ a r f' k. search rules)
