use Rattle.std.proofs.lemmas.Grind.{common_steps}
use Rattle.std.proofs.Common.{rules}
use Rattle.std.proofs.Common.{◌≡◌, ◌<◌, ◌∷◌, [], ℕ, All, length, false, sym, ap, ◌∙◌, subst, ⊎_elim, arith, get_or}
use Rattle.std.proofs.lemmas.List.{length-replicate}
use Rattle.std.proofs.lemmas.List.Elements.{All-get_or}
use Rattle.aa_pattern.specs.declared.item.Item.{Item}
use Rattle.aa_pattern.specs.declared.flags.Span.{Span}
use Rattle.aa_pattern.specs.Weights.{weight, weight_of_lists}
use Rattle.aa_pattern.specs.Steps.{IsSimple}
use Rattle.aa_pattern.specs.Flags.{AreWithin, Follows}
use Rattle.aa_pattern.proofs.Rows.{weight-Choice}
use Rattle.aa_pattern.proofs.FlagSteps.{weight_at, weight_of_at, follows_more, follows_choice, follows_nothing, follows_same, some_more, within_none, within_both, within_same, copied, added, cleared, none_at}
use Rattle.aa_pattern.proofs.flags.+follow.Goals as goal
use Rattle.aa_pattern.proofs.flags.+follow.Goals.{follow_items-in-Choice, follow_items-in_default}

pub follow_branches-follow_items-more-requires : goal.follow_branches-follow_items-more-requires
follow_branches-follow_items-more-requires t c = grind (arith, common_steps, weight_of_at, within_same, copied)

pub follow_branches-loop-branch-preserved : goal.follow_branches-loop-branch-preserved
follow_branches-loop-branch-preserved t c =
    let text = c.args.text.now in let more = c.follow_items-more.result in let ends = c.follow_items-more.new.flags in
    let same : (k : ℕ) → get_or c.copy_flags.new.flags k false ≡ get_or c.args.flags.now k false =
    copied c.loop-branch.ends c.copy_flags.new.flags c.args.flags.now text c.args.span.first c.args.span.end c.requires.within c.copy_flags.ensures c.loop-branch.invariant.no_ends in
    let each = added c.loop-branch.all c.add_flags.new.flags ends text more.first more.end c.follow_items-more.ensures.within c.add_flags.ensures in record {
      no_ends = cleared ends c.clear_flags.new.flags text more.first more.end c.follow_items-more.ensures.within c.clear_flags.ensures;
      follows = some_more c.args.branches.now c.loop-branch.branch-index c.branch-item.result text c.args.flags.now c.loop-branch.all ends c.add_flags.new.flags c.loop-branch-test.true each c.loop-branch.invariant.follows
          (follows_same (get_or c.args.branches.now c.loop-branch.branch-index c.branch-item.result).items text c.args.flags.now c.copy_flags.new.flags ends same
          (subst (λ xs. Follows xs text c.copy_flags.new.flags ends) (c.as_slice.ensures.value ∙ ap (λ v. v.items) c.branch-item.is) c.follow_items-more.ensures.follows));
      within = within_both text c.loop-branch.all ends c.add_flags.new.flags c.loop-branch.reached.first c.loop-branch.reached.end more.first more.end c.joined-reached.result.first c.joined-reached.result.end
          each c.loop-branch.invariant.within c.follow_items-more.ensures.within c.joined-reached.ensures.none c.joined-reached.ensures.some;
    }

pub follow_items-returns-then-reached-clause-follows : goal.follow_items-returns-then-reached-clause-follows
follow_items-returns-then-reached-clause-follows t c = grind (arith, common_steps, follows_nothing, within_none)

pub follow_items-follow_choice-reached-requires : goal.follow_items-follow_choice-reached-requires
follow_items-follow_choice-reached-requires t c = (
  omega (
    arith,
    c.decreases,
    weight_at c.args.items.now c.loop-item.item-index c.item-item.result c.loop-item-test.true,
    ap weight c.item-item.is,
    weight-Choice c.in-Choice.branches,
    ap weight_of_lists c.as_slice.ensures.value,
    ap weight c.in-Choice.is,
  ),
  (omega (arith, c.requires.long, c.loop-item.auto.flags), (short, c.loop-item.invariant.within)),
)
  where
    short : length c.args.text.now < 16384
    short =
        ⊎_elim (λ (all : All IsSimple c.args.items.now). absurd (subst IsSimple (sym c.item-item.is ∙ c.in-Choice.is) (All-get_or IsSimple c.args.items.now c.loop-item.item-index c.item-item.result c.loop-item-test.true all)))
        (λ (lt : length c.args.text.now < 16384). lt) c.requires.small

pub follow_items-loop-item-preserved : goal.follow_items-loop-item-preserved
follow_items-loop-item-preserved t c = record {
  follows = follows_more c.args.items.now c.loop-item.item-index c.item-item.result c.args.text.now c.args.flags.now c.loop-item.flags c.match-item.flags c.loop-item-test.true c.loop-item.invariant.follows
      (elim c.match-item.branch [
        | follow_items-in-Choice w ↦ subst (λ fs. Follows (get_or c.args.items.now c.loop-item.item-index c.item-item.result ∷ []) c.args.text.now c.loop-item.flags fs) (sym w.flags-is)
            (subst (λ (i : Item). Follows (i ∷ []) c.args.text.now c.loop-item.flags w.follow_choice-reached.new.flags) c.item-item.is
            (follows_choice c.item-item.result w.in-Choice.branches _ c.args.text.now c.loop-item.flags w.follow_choice-reached.new.flags w.in-Choice.is w.as_slice.ensures.value w.follow_choice-reached.ensures.follows))
        | follow_items-in_default w ↦ subst (λ fs. Follows (get_or c.args.items.now c.loop-item.item-index c.item-item.result ∷ []) c.args.text.now c.loop-item.flags fs) (sym w.flags-is)
            (subst (λ (i : Item). Follows (i ∷ []) c.args.text.now c.loop-item.flags w.follow_simple-reached.new.flags) c.item-item.is w.follow_simple-reached.ensures.follows)
      ]);
  within = elim c.match-item.branch [
    | follow_items-in-Choice w ↦ subst (λ fs. AreWithin fs c.args.text.now c.match-item.reached.first c.match-item.reached.end) (sym w.flags-is)
        (subst (λ (s : Span). AreWithin w.follow_choice-reached.new.flags c.args.text.now s.first s.end) (sym w.reached-is) w.follow_choice-reached.ensures.within)
    | follow_items-in_default w ↦ subst (λ fs. AreWithin fs c.args.text.now c.match-item.reached.first c.match-item.reached.end) (sym w.flags-is)
        (subst (λ (s : Span). AreWithin w.follow_simple-reached.new.flags c.args.text.now s.first s.end) (sym w.reached-is) w.follow_simple-reached.ensures.within)
  ];
}

pub follow_short-follow_branches-requires : goal.follow_short-follow_branches-requires
follow_short-follow_branches-requires t c = search (rules, length-replicate, none_at)

pub follow_path-follow_branches-requires : goal.follow_path-follow_branches-requires
follow_path-follow_branches-requires t c = search (rules, length-replicate, none_at)

pub follow_long-follow_branches-requires : goal.follow_long-follow_branches-requires
follow_long-follow_branches-requires t c = search (rules, length-replicate, none_at)
