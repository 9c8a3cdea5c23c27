use Rattle.std.proofs.Common.{rules, map}
use Rattle.std.specs.List.Sorted.{IsNonDecreasingBy}
use Rattle.std.proofs.lemmas.List.Sorted.{IsPermutation-map, IsPermutation-trans, IsNonDecreasingBy-from_sort_by_key}
use Rattle.aa_lane.specs.Ends.{known}
use Rattle.aa_pool.proofs.Sorted.{sorted_is, placed_map, rises_map}
use Rattle.aa_pool.proofs.close.in_order.Goals as goal

pub returns : goal.returns
returns g c =
    let lanes = c.args.lanes.now in
    let new = c.sort_unstable_by_key.new.self.items in
    let moved = IsPermutation-map (λ s. s.lane) c.args.servers.items new c.sort_unstable_by_key.ensures.permutation in
    let up : IsNonDecreasingBy (λ s. s.lane.tag) c.sort_unstable_by_key.new.self.items = IsNonDecreasingBy-from_sort_by_key (λ s. s.lane.tag) _ c.sort_unstable_by_key.ensures.sorted (λ a r f' k. search rules) in
    sorted_is (λ i. i.tag) (map known lanes) (map (λ s. s.lane) new) (placed_map (λ i. i.tag) known lanes c.requires.tags) (IsPermutation-trans _ _ _ c.requires.servers moved) (rises_map (λ i. i.tag) (λ s. s.lane) new up)
