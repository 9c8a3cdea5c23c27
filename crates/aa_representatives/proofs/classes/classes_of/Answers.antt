use Rattle.std.proofs.Common.{◌≡◌, ℕ, List, Contains, length, subst, arith}
use Rattle.aa_regions.specs.declared.regions.Region.{Region}
use Rattle.aa_representatives.specs.declared.classes.Class.{Class}
use Rattle.aa_representatives.specs.Classes.{IsClassOf, AreClasses}
use Rattle.aa_representatives.proofs.Linking.{elements_more, no_classes}
use Rattle.aa_representatives.proofs.classes.classes_of.Goals as goal

pub loop-region-preserved : goal.loop-region-preserved
loop-region-preserved c = λ p is.
    let was = c.loop-region.classes.items in
    let now = c.add_class.new.classes.items in
    let made = c.in_ok-add_class.ensures in
    let inv = c.loop-region.invariant p is in
    let here : (x : Class) × Contains now x × IsClassOf p.files c.region-item.result.witness x = subst (λ (s : List ℕ). (x : Class) × Contains now x × IsClassOf p.files s x) c.as_slice.ensures (made.has p is) in
    record {
      each = made.each p is inv.each;
      all = elements_more c.args.regions.now c.loop-region.region-index c.region-item.result
          (λ (r : Region). (x : Class) × Contains was x × IsClassOf p.files r.witness x) (λ (r : Region). (x : Class) × Contains now x × IsClassOf p.files r.witness x)
          c.loop-region-test.true c.region-item.is
          (λ r h. (h.0, made.kept h.0 h.1, h.2)) here inv.all;
    }

pub loop-region-init : goal.loop-region-init
loop-region-init c = λ p is. no_classes p.files c.args.regions.now c.new-classes.result.items c.new-classes.ensures.items

pub returns : goal.returns
returns c = λ p is.
    let regions = c.args.regions.now in
    let all : c.loop-region.region-index ≡ length regions = omega (arith, c.loop-region-test.false, c.loop-region.auto.region-index-end) in
    subst (λ (n : ℕ). AreClasses p.files regions n c.loop-region.classes.items) all (c.loop-region.invariant p is)
