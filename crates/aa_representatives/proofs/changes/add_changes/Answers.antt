use Rattle.std.proofs.Common.{ℕ, List, arith, subst}
use Rattle.aa_representatives.specs.Askable.{IsChange}
use Rattle.aa_representatives.specs.Representatives.{HasChange}
use Rattle.aa_representatives.proofs.Adding.{adds_both, adds_keep, regions_more}
use Rattle.aa_representatives.proofs.changes.add_changes.Goals as goal

pub loop-region-preserved : goal.loop-region-preserved
loop-region-preserved c =
    let was = c.loop-region.requests.items in
    let now = c.add_change.new.requests.items in
    let made = c.in_ok-add_change.ensures in
    record {
      adds = adds_both IsChange c.args.requests.now.items was now c.loop-region.invariant.adds made.adds;
      has = regions_more c.args.regions.now c.loop-region.region-index c.region-item.result (λ (s : List ℕ). HasChange s was) (λ (s : List ℕ). HasChange s now)
          c.loop-region-test.true c.region-item.is
          (λ s has good. adds_keep IsChange was now made.adds _ (has good))
          (subst (λ (s : List ℕ). HasChange s now) c.as_slice.ensures made.has) c.loop-region.invariant.has;
    }

pub returns-clause-has : goal.returns-clause-has
returns-clause-has c = λ r in'. c.loop-region.invariant.has in'.0 r (omega (arith, in'.1, c.loop-region-test.false)) in'.2
