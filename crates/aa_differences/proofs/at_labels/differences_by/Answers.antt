use Rattle.std.proofs.Common.{inr, subst, Contains, List}
use Rattle.aa_differences.specs.declared.at_labels.Difference.{Difference}
use Rattle.aa_unclean_paths.specs.Requests.{IsAtUncleanPath}
use Rattle.aa_differences.proofs.Adding.{list_all}
use Rattle.aa_differences.proofs.at_labels.differences_by.Goals as goal

pub differences_of-requires-clause-asked : goal.differences_of-requires-clause-asked
differences_of-requires-clause-asked c = c.requires.requests.each

pub returns-then-are_clean-clause-all : goal.returns-then-are_clean-clause-all
returns-then-are_clean-clause-all c =
    let ds = c.in_ok-differences.differences.items in
    list_all c.args.old.now c.args.new.now c.args.from c.args.to c.args.requests.now c.requires.requests ds
    (subst (λ (l : List Difference). (d : Difference) → Contains l d → IsAtUncleanPath d.request → ⊥) c.as_slice.ensures.value
    (c.are_clean.ensures c.if-are_clean.true))
    c.in_ok-differences.ensures.all

pub returns-clause-many_states : goal.returns-clause-many_states
returns-clause-many_states c = λ e. inr (c.in_ok-unclean.unclean, c.in_ok-unclean.ensures.is, c.differences_apart.ensures.many_states e)
