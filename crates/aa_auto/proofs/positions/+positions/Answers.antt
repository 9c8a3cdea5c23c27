use Rattle.std.proofs.Common.{arith, ap}
use Rattle.aa_pattern.specs.Weights.{weight, weight_of_items, weight_of_lists}
use Rattle.aa_pattern.proofs.FlagSteps.{weight_at, weight_of_at}
use Rattle.aa_pattern.proofs.Rows.{weight-Choice}
use Rattle.aa_auto.specs.Positions.{AddsItem}
use Rattle.aa_auto.proofs.HeadLemmas.{not_choice}
use Rattle.aa_auto.proofs.MoveLemmas.{if_ok}
use Rattle.aa_auto.proofs.PositionLemmas.{grown_within, items_none, items_more, items_all, simple_made, choice_made, branches_none, branches_more, branches_all}
use Rattle.aa_auto.proofs.positions.+positions.Goals as goal

pub add_items-loop-item-init : goal.add_items-loop-item-init
add_items-loop-item-init t c = items_none c.args.all.now c.args.source c.requires.whole c.requires.source

pub add_items-add_item-requires : goal.add_items-add_item-requires
add_items-add_item-requires t c = (
  omega (arith, c.decreases, weight_at c.args.items.now c.loop-item.item-index c.item-item.result c.loop-item-test.true, ap weight c.item-item.is),
  (c.loop-item.invariant.1.whole, c.loop-item.invariant.0),
)

pub add_items-loop-item-preserved : goal.add_items-loop-item-preserved
add_items-loop-item-preserved t c =
    items_more c.args.all.now c.loop-item.all c.add_item.new.all c.args.source c.loop-item.position c.in_ok-behind.behind c.loop-item.item-index
    c.args.items.now c.item-item.result
    c.loop-item-test.true c.item-item.is c.loop-item.invariant c.in_ok-behind.ensures

pub add_items-returns : goal.add_items-returns
add_items-returns t c = items_all c.args.all.now c.loop-item.all c.args.source c.loop-item.position c.loop-item.item-index c.args.items.now
    c.loop-item-test.false c.loop-item.invariant

pub add_item-add_branches-requires : goal.add_item-add_branches-requires
add_item-add_branches-requires t c = (
  omega (arith, c.decreases, weight-Choice c.in-Choice.branches, ap weight_of_lists c.as_slice.ensures.value, ap weight c.in-Choice.is),
  (c.requires.whole, c.requires.source),
)

pub add_item-join-requires : goal.add_item-join-requires
add_item-join-requires t c = record { whole = c.in_ok-ends.ensures.whole }

pub add_item-returns-in-Choice : goal.add_item-returns-in-Choice
add_item-returns-in-Choice t c =
    if_ok c.join.result _ (λ n. AddsItem c.args.all.now c.join.new.self c.args.source c.args.item.now n)
    (λ n join. choice_made c.args.all.now c.add_branches.new.all c.join.new.self c.args.source n c.in_ok-ends.ends.items c.as_slice.result.now
    c.args.item.now c.in-Choice.branches c.in-Choice.is
    c.as_slice.ensures.value c.in_ok-ends.ensures join) c.join.ensures

pub add_item-after-requires-clause-simple : goal.add_item-after-requires-clause-simple
add_item-after-requires-clause-simple t c = not_choice c.args.item.now c.in_default.not-Choice

pub add_item-returns : goal.add_item-returns
add_item-returns t c =
    if_ok c.after.result _ (λ n. AddsItem c.args.all.now c.after.new.self c.args.source c.args.item.now n)
    (λ n adds. simple_made c.args.all.now c.after.new.self c.args.source n c.args.item.now (not_choice c.args.item.now c.in_default.not-Choice) adds)
    c.after.ensures

pub add_branches-loop-branch-init : goal.add_branches-loop-branch-init
add_branches-loop-branch-init t c = record {
  adds = branches_none c.args.all.now c.args.source c.new-ends.result.items c.requires.whole c.new-ends.ensures.items;
  within = c.requires.source;
}

pub add_branches-add_items-requires : goal.add_branches-add_items-requires
add_branches-add_items-requires t c =
    let s = c.in_ok-same.ensures in (
      omega (
        arith,
        c.decreases,
        weight_of_at c.args.branches.now c.loop-branch.branch-index c.branch-item.result c.loop-branch-test.true,
        ap weight_of_items c.as_slice.ensures.value,
        ap (λ v. weight_of_items v.items) c.branch-item.is,
      ),
      (
        s.whole,
        grown_within c.loop-branch.all c.same.new.self c.args.source c.loop-branch.invariant.adds.whole s.whole s.longer
            c.loop-branch.invariant.within,
      ),
    )

pub add_branches-loop-branch-preserved : goal.add_branches-loop-branch-preserved
add_branches-loop-branch-preserved t c =
    let s = c.in_ok-same.ensures in
    let i = c.in_ok-last.ensures in
    record {
      adds = branches_more c.args.all.now c.loop-branch.all c.same.new.self c.add_items.new.all c.args.source c.in_ok-last.last c.loop-branch.ends.items
          c.push.new.self.items c.as_slice.result.now
          c.loop-branch.branch-index c.args.branches.now c.branch-item.result c.loop-branch-test.true c.branch-item.is c.as_slice.ensures.value
          c.in_ok-push.ensures.items
          c.loop-branch.invariant.adds s i;
      within = grown_within c.same.new.self c.add_items.new.all c.args.source s.whole i.1.whole i.1.longer
          (grown_within c.loop-branch.all c.same.new.self c.args.source c.loop-branch.invariant.adds.whole s.whole s.longer c.loop-branch.invariant.within);
    }

pub add_branches-returns : goal.add_branches-returns
add_branches-returns t c =
    branches_all c.args.all.now c.loop-branch.all c.args.source c.loop-branch.ends.items c.loop-branch.branch-index c.args.branches.now
    c.loop-branch-test.false c.loop-branch.invariant.adds
