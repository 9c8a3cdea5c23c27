use Rattle.std.proofs.Common.{rules}
use Rattle.std.specs.List.Sorted.{IsNonDecreasingBy}
use Rattle.std.proofs.lemmas.List.Sorted.{IsPermutation-trans, IsNonDecreasingBy-from_sort_by_key}
use Rattle.aa_model.specs.declared.request.Request.{Request}
use Rattle.aa_reachability.specs.Order.{text_length}
use Rattle.aa_reachability.proofs.order.in_order.Goals as goal

pub returns-clause-same : goal.returns-clause-same
returns-clause-same c = IsPermutation-trans _ _ _ c.in_ok-requests.ensures c.sort_by_key.ensures.permutation

pub returns-clause-rising : goal.returns-clause-rising
returns-clause-rising c =
    let up : IsNonDecreasingBy text_length c.sort_by_key.new.self.items =
    IsNonDecreasingBy-from_sort_by_key text_length _ c.in_ok-sort_by_key.ensures.sorted (λ a r f' k. search rules) in
    up
