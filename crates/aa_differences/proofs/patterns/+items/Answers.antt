use Rattle.std.proofs.lemmas.Grind.{common_steps}
use Rattle.std.proofs.Common.{arith, List, Vec, sym, subst}
use Rattle.std.specs.declared.alloc.Global.{Global}
use Rattle.std.specs.List.{AllZip}
use Rattle.aa_pattern.specs.declared.item.Item.{Item, Choice}
use Rattle.aa_pattern.proofs.Rows.{weight-Choice}
use Rattle.aa_pattern.proofs.FlagSteps.{weight_of_at}
use Rattle.aa_differences.specs.Sameness.{SameItem, SameList}
use Rattle.aa_differences.proofs.Zipped.{zipped_next, same_choice, weight_at}
use Rattle.aa_differences.proofs.patterns.+items.Goals as goal

pub same_branches-same_items-requires : goal.same_branches-same_items-requires
same_branches-same_items-requires t c = grind (arith, common_steps, weight_of_at)

pub same_branches-loop-number-preserved : goal.same_branches-loop-number-preserved
same_branches-loop-number-preserved t c =
    zipped_next SameList c.args.one.now c.args.other.now c.loop-number.number c.index-one-number.result c.index-other-number.result c.loop-number-test.true (omega arith) c.index-one-number.is c.index-other-number.is
    (subst (λ (zs : List Item). AllZip SameItem zs c.index-other-number.result.items) c.as_slice.ensures.value
    (subst (λ (zs : List Item). AllZip SameItem c.as_slice.result.now zs) c.as_slice-in-loop-number.ensures.value (c.same_items.ensures c.if-not-same_items.false)))
    c.loop-number.invariant

pub same_item-same_branches-requires : goal.same_item-same_branches-requires
same_item-same_branches-requires t c = grind (arith, common_steps, weight-Choice)

pub same_item-returns-in-Choice-Choice : goal.same_item-returns-in-Choice-Choice
same_item-returns-in-Choice-Choice t c = λ e.
    let v = c.in-Choice-Choice.one in
    let w = c.in-Choice-Choice.other in
    let h : AllZip SameList v.items w.items =
    subst (λ (zs : List (Vec Item Global)). AllZip SameList zs w.items) c.as_slice.ensures.value
    (subst (λ (zs : List (Vec Item Global)). AllZip SameList c.as_slice.result.now zs) c.as_slice-in-Choice-Choice.ensures.value (c.same_branches.ensures e)) in
    subst (λ (x : Item). SameItem x c.args.other.now) (sym c.in-Choice-Choice.is-0)
    (subst (λ (y : Item). SameItem (Choice v) y) (sym c.in-Choice-Choice.is-1) (same_choice v w h))

pub same_items-same_item-requires : goal.same_items-same_item-requires
same_items-same_item-requires t c = grind (arith, common_steps, weight_at)

pub same_items-loop-number-preserved : goal.same_items-loop-number-preserved
same_items-loop-number-preserved t c =
    zipped_next SameItem c.args.one.now c.args.other.now c.loop-number.number c.index-one-number.result c.index-other-number.result c.loop-number-test.true (omega arith) c.index-one-number.is c.index-other-number.is
    (c.same_item.ensures c.if-not-same_item.false) c.loop-number.invariant
