use Rattle.std.proofs.Common.{◌≡◌, ◌++◌, ◌+◌, ◌*◌, take}
use Rattle.aa_pattern.specs.Weights.{weight, weight_of_items, weight_of_lists}
use Rattle.aa_changed_rules.specs.Codes.{items_code, branches_code}
use Rattle.aa_changed_rules.proofs.codes.+codes.Given as goal

abbrev pub invariant-push_branches-loop-branch : goal.invariant-push_branches-loop-branch
invariant-push_branches-loop-branch l = l.out.items ≡ l.initial.out.items ++ branches_code (take l.branch-index l.branches)

abbrev pub invariant-push_items-loop-item : goal.invariant-push_items-loop-item
invariant-push_items-loop-item l = l.out.items ≡ l.initial.out.items ++ items_code (take l.item-index l.items)

abbrev pub decreases-push_item : goal.decreases-push_item
decreases-push_item l = 2 * weight l.item.now

abbrev pub decreases-push_branches : goal.decreases-push_branches
decreases-push_branches l = 2 * weight_of_lists l.branches.now + 1

abbrev pub decreases-push_items : goal.decreases-push_items
decreases-push_items l = 2 * weight_of_items l.items.now + 1
