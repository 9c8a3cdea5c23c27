use Rattle.std.proofs.Common.{◌+◌, ◌*◌, take}
use Rattle.std.specs.List.{AllZip}
use Rattle.aa_pattern.specs.Weights.{weight, weight_of_items, weight_of_lists}
use Rattle.aa_differences.specs.Sameness.{SameItem, SameList}
use Rattle.aa_differences.proofs.patterns.+items.Given as goal

abbrev pub invariant-same_branches-loop-number : goal.invariant-same_branches-loop-number
invariant-same_branches-loop-number l = AllZip SameList (take l.number l.one) (take l.number l.other)

abbrev pub invariant-same_items-loop-number : goal.invariant-same_items-loop-number
invariant-same_items-loop-number l = AllZip SameItem (take l.number l.one) (take l.number l.other)

abbrev pub decreases-same_item : goal.decreases-same_item
decreases-same_item l = 2 * weight l.one.now

abbrev pub decreases-same_branches : goal.decreases-same_branches
decreases-same_branches l = 2 * weight_of_lists l.one.now + 1

abbrev pub decreases-same_items : goal.decreases-same_items
decreases-same_items l = 2 * weight_of_items l.one.now + 1
