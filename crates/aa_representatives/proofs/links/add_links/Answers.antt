use Rattle.std.proofs.Common.{ℕ, List, Contains, arith, subst}
use Rattle.aa_representatives.specs.Askable.{IsLink}
use Rattle.aa_representatives.specs.Representatives.{HasLinks}
use Rattle.aa_representatives.proofs.Adding.{adds_both, adds_keep}
use Rattle.aa_representatives.proofs.Linking.{elements_more}
use Rattle.aa_representatives.proofs.links.add_links.Goals as goal

pub loop-link-preserved : goal.loop-link-preserved
loop-link-preserved c =
    let paths = c.args.paths.now in
    let was = c.loop-link.requests.items in
    let now = c.add_links_at.new.requests.items in
    let made = c.in_ok-add_links_at.ensures in
    record {
      adds = adds_both IsLink c.args.requests.now.items was now c.loop-link.invariant.adds made.adds;
      has = elements_more paths c.loop-link.link-index c.link-item.result
          (λ (s : List ℕ). (u : List ℕ) → Contains paths u → HasLinks s u was) (λ (s : List ℕ). (u : List ℕ) → Contains paths u → HasLinks s u now)
          c.loop-link-test.true c.link-item.is
          (λ s has u in' owned. adds_keep IsLink was now made.adds _ (has u in' owned))
          (subst (λ (s : List ℕ). (u : List ℕ) → Contains paths u → HasLinks s u now) c.as_slice.ensures made.has) c.loop-link.invariant.has;
    }

pub returns-clause-has : goal.returns-clause-has
returns-clause-has c = λ s u in' also. c.loop-link.invariant.has in'.0 s (omega (arith, in'.1, c.loop-link-test.false)) in'.2 u also
