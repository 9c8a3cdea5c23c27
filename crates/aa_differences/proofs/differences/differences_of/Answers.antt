use Rattle.std.proofs.Common.{List, Contains, get_or, subst, arith}
use Rattle.std.proofs.lemmas.List.{get_or_default}
use Rattle.aa_model.specs.declared.label.Label.TheVariants.{Unconfined}
use Rattle.aa_differences.specs.declared.at_labels.Difference.{Difference}
use Rattle.aa_differences.specs.declared.comparison.UntoldLabels.{UntoldLabels}
use Rattle.aa_differences.specs.declared.labels.Labels.{Labels}
use Rattle.aa_differences.specs.Differences.{AreTold, ListAllAt}
use Rattle.aa_differences.proofs.Listing.{all_keep, no_entry, no_labels}
use Rattle.aa_differences.proofs.differences.differences_of.Goals as goal
use Rattle.aa_representatives.proofs.Linking.{elements_more}

pub loop-at-init : goal.loop-at-init
loop-at-init c = record {
  each = λ d e. absurd (no_entry c.args.old.now c.args.new.now d (subst (λ (x : List Difference). Contains x d) c.new.ensures.items e));
  untold = λ u e. absurd (no_labels u (subst (λ (x : List UntoldLabels). Contains x u) c.new-2.ensures.items e));
  all = λ k x lt e. absurd (omega (arith, lt));
}

pub loop-at-preserved : goal.loop-at-preserved
loop-at-preserved c =
    let ps = c.args.old.now in
    let qs = c.args.new.now in
    let labels = c.args.labels.now in
    let i = c.loop-at.at-index in
    let none : Labels = record { from = Unconfined 0; to = Unconfined 0 } in
    let x = get_or labels i none in
    let was = c.loop-at.found in
    let now = c.add_differences_at.new.found in
    let made = c.in_ok-add_differences_at.ensures in
    record {
      each = made.each c.loop-at.invariant.each;
      untold = made.untold c.loop-at.invariant.untold;
      all = elements_more labels i x (λ (y : Labels). AreTold was.untold.items y.from y.to → ListAllAt ps qs y.from y.to was.differences.items)
          (λ (y : Labels). AreTold now.untold.items y.from y.to → ListAllAt ps qs y.from y.to now.differences.items)
          c.loop-at-test.true (get_or_default labels i none x c.loop-at-test.true)
          (λ y before told. all_keep ps qs y.from y.to was.differences.items now.differences.items made.kept (before (λ u d. told u (made.still u d))))
          made.listed c.loop-at.invariant.all;
    }

pub returns-clause-each : goal.returns-clause-each
returns-clause-each c = c.loop-at.invariant.each

pub returns-clause-untold : goal.returns-clause-untold
returns-clause-untold c = c.loop-at.invariant.untold

pub returns-clause-all : goal.returns-clause-all
returns-clause-all c = λ x in'. c.loop-at.invariant.all in'.0 x (omega (arith, in'.1, c.loop-at-test.false)) in'.2
