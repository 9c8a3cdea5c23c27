use Rattle.std.proofs.Common.{◌≡◌, ℕ, List, inr, ⊎_elim, subst}
use Rattle.aa_pattern.specs.Matching.{is_match}
use Rattle.aa_representatives.proofs.ApartSaid.{HasClassAt}
use Rattle.aa_representatives.proofs.Adding.{regions_more}
use Rattle.aa_representatives.proofs.apart.add_classes.Goals as goal

pub loop-region-preserved : goal.loop-region-preserved
loop-region-preserved c =
    let ps = c.args.one.now in
    let qs = c.args.other.now in
    let p = c.args.pattern.now in
    let was = c.loop-region.classes.items in
    let now = c.add_class_if.new.classes.items in
    let made = c.in_ok-add_class_if.ensures in
    let before = c.loop-region.invariant in
    record {
      kept = λ x d. made.kept x (before.kept x d);
      each = λ x d. ⊎_elim (before.each x) inr (made.each x d);
      has = regions_more c.args.regions.now c.loop-region.region-index c.region-item.result
          (λ (s : List ℕ). is_match p.items.items s ≡ c.args.wanted → HasClassAt ps c.args.from qs c.args.to was s)
          (λ (s : List ℕ). is_match p.items.items s ≡ c.args.wanted → HasClassAt ps c.args.from qs c.args.to now s)
          c.loop-region-test.true c.region-item.is
          (λ s has matched. let h = has matched in (h.0, made.kept h.0 h.1, h.2))
          (subst (λ (s : List ℕ). is_match p.items.items s ≡ c.args.wanted → HasClassAt ps c.args.from qs c.args.to now s)
          c.as_slice-path.ensures made.has)
          before.has;
    }
