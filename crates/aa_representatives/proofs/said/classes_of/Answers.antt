use Rattle.std.proofs.Common.{◌≡◌, ℕ, length, sym, subst, arith}
use Rattle.aa_representatives.specs.Both.{AreSaidClasses}
use Rattle.aa_representatives.proofs.BothSaid.{classes_more, no_classes}
use Rattle.aa_representatives.proofs.said.classes_of.Goals as goal

pub loop-region-preserved : goal.loop-region-preserved
loop-region-preserved c =
    let made = c.in_ok-add_class.ensures in
    let r = c.region-item.result in
    classes_more c.args.one.now c.args.from c.args.other.now c.args.to c.args.regions.now c.loop-region.region-index r c.loop-region.classes.items c.add_class.new.classes.items
    c.as_slice-path.result.now c.said_at-said.result c.said_at-also.result c.loop-region-test.true c.region-item.is c.as_slice-path.ensures
    (c.requires r (c.loop-region.region-index, c.loop-region-test.true, sym c.region-item.is))
    c.said_at-said.ensures c.said_at-also.ensures made.kept made.each made.has c.loop-region.invariant

pub loop-region-init : goal.loop-region-init
loop-region-init c = no_classes c.args.one.now c.args.from c.args.other.now c.args.to c.args.regions.now c.new-classes.result.items c.new-classes.ensures.items

pub returns : goal.returns
returns c =
    let regions = c.args.regions.now in
    let all : c.loop-region.region-index ≡ length regions = omega (arith, c.loop-region-test.false, c.loop-region.auto.region-index-end) in
    subst (λ (n : ℕ). AreSaidClasses c.args.one.now c.args.from c.args.other.now c.args.to regions n c.loop-region.classes.items) all c.loop-region.invariant
