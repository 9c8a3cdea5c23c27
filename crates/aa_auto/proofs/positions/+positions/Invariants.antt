use Rattle.std.proofs.Common.{◌+◌, ◌*◌, ◌<◌, take, length}
use Rattle.aa_pattern.specs.Weights.{weight, weight_of_items, weight_of_lists}
use Rattle.aa_auto.specs.Positions.{AddsItems, AddsBranches}
use Rattle.aa_auto.proofs.positions.+positions.Given as goal

abbrev pub invariant-add_branches-loop-branch : goal.invariant-add_branches-loop-branch
invariant-add_branches-loop-branch l = record {
  adds : AddsBranches l.fn.all l.all l.source (take l.branch-index l.branches) l.ends.items;
  within : l.source < length l.all.nodes.items;
}

abbrev pub invariant-add_items-loop-item : goal.invariant-add_items-loop-item
invariant-add_items-loop-item l = AddsItems l.fn.all l.all l.source (take l.item-index l.items) l.position

abbrev pub decreases-add_items : goal.decreases-add_items
decreases-add_items l = 2 * weight_of_items l.items.now + 1

abbrev pub decreases-add_item : goal.decreases-add_item
decreases-add_item l = 2 * weight l.item.now

abbrev pub decreases-add_branches : goal.decreases-add_branches
decreases-add_branches l = 2 * weight_of_lists l.branches.now + 1
