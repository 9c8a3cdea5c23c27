use Rattle.std.proofs.Common.{ℕ, List, arith, subst}
use Rattle.aa_representatives.specs.Askable.{IsLink}
use Rattle.aa_representatives.specs.Representatives.{HasLinks}
use Rattle.aa_representatives.proofs.Adding.{adds_both, adds_keep}
use Rattle.aa_representatives.proofs.Linking.{elements_more}
use Rattle.aa_representatives.proofs.links.add_links_at.Goals as goal

pub loop-target-preserved : goal.loop-target-preserved
loop-target-preserved c =
    let link = c.args.link.now in
    let was = c.loop-target.requests.items in
    let now = c.add_links_to.new.requests.items in
    let made = c.in_ok-add_links_to.ensures in
    record {
      adds = adds_both IsLink c.args.requests.now.items was now c.loop-target.invariant.adds made.adds;
      has = elements_more c.args.targets.now c.loop-target.target-index c.target-item.result (λ (s : List ℕ). HasLinks link s was) (λ (s : List ℕ). HasLinks link s now)
          c.loop-target-test.true c.target-item.is
          (λ s has owned. adds_keep IsLink was now made.adds _ (has owned))
          (subst (λ (s : List ℕ). HasLinks link s now) c.as_slice.ensures made.has) c.loop-target.invariant.has;
    }

pub returns-clause-has : goal.returns-clause-has
returns-clause-has c = λ s in'. c.loop-target.invariant.has in'.0 s (omega (arith, in'.1, c.loop-target-test.false)) in'.2
