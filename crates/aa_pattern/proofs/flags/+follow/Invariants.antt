use Rattle.std.proofs.Common.{◌+◌, ◌*◌, take}
use Rattle.aa_pattern.specs.Weights.{weight_of_items, weight_of_lists}
use Rattle.aa_pattern.specs.Flags.{AreUnset, AreWithin, Follows, FollowsSome}
use Rattle.aa_pattern.proofs.flags.+follow.Given as goal

abbrev pub invariant-follow_items-loop-item : goal.invariant-follow_items-loop-item
invariant-follow_items-loop-item l = record {
  follows : Follows (take l.item-index l.items) l.text l.fn.flags l.flags;
  within : AreWithin l.flags l.text l.reached.first l.reached.end;
}

abbrev pub invariant-follow_branches-loop-branch : goal.invariant-follow_branches-loop-branch
invariant-follow_branches-loop-branch l = record {
  no_ends : AreUnset l.ends;
  follows : FollowsSome (take l.branch-index l.branches) l.text l.fn.flags l.all;
  within : AreWithin l.all l.text l.reached.first l.reached.end;
}

abbrev pub decreases-follow_items : goal.decreases-follow_items
decreases-follow_items l = 4 * weight_of_items l.items.now

abbrev pub decreases-follow_choice : goal.decreases-follow_choice
decreases-follow_choice l = 4 * weight_of_lists l.branches.now + 2

abbrev pub decreases-follow_short : goal.decreases-follow_short
decreases-follow_short l = 4 * weight_of_lists l.branches.now + 1

abbrev pub decreases-follow_path : goal.decreases-follow_path
decreases-follow_path l = 4 * weight_of_lists l.branches.now + 1

abbrev pub decreases-follow_long : goal.decreases-follow_long
decreases-follow_long l = 4 * weight_of_lists l.branches.now + 1

abbrev pub decreases-follow_branches : goal.decreases-follow_branches
decreases-follow_branches l = 4 * weight_of_lists l.branches.now
