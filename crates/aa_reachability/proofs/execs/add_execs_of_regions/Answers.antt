use Rattle.std.proofs.Common.{◌≡◌, ℕ, List, true, Contains, sym, arith, subst}
use Rattle.aa_model.specs.Requests.{is_path}
use Rattle.aa_representatives.specs.Askable.{IsExec}
use Rattle.aa_representatives.specs.Representatives.{HasExecs}
use Rattle.aa_representatives.proofs.Adding.{adds_both, adds_keep, regions_more}
use Rattle.aa_reachability.proofs.execs.add_execs_of_regions.Goals as goal

pub loop-region-preserved : goal.loop-region-preserved
loop-region-preserved c =
    let was = c.loop-region.requests.items in
    let now = c.add_execs_at.new.requests.items in
    let made = c.in_ok-add_execs_at.ensures in
    let r = c.region-item.result in
    let among : Contains c.args.regions.now r = (c.loop-region.region-index, c.loop-region-test.true, sym c.region-item.is) in
    let path : is_path c.as_slice.result.now ≡ true = subst (λ (s : List ℕ). is_path s ≡ true) (sym c.as_slice.ensures) (c.requires r among).1 in
    record {
      adds = adds_both IsExec c.args.requests.now.items was now c.loop-region.invariant.adds made.adds;
      has = regions_more c.args.regions.now c.loop-region.region-index r (λ (s : List ℕ). HasExecs s was) (λ (s : List ℕ). HasExecs s now)
          c.loop-region-test.true c.region-item.is
          (λ s has owned. adds_keep IsExec was now made.adds _ (has owned))
          (subst (λ (s : List ℕ). HasExecs s now) c.as_slice.ensures (made.has path)) c.loop-region.invariant.has;
    }

pub returns-clause-has : goal.returns-clause-has
returns-clause-has c = λ r among. c.loop-region.invariant.has among.0 r (omega (arith, among.1, c.loop-region-test.false)) among.2
