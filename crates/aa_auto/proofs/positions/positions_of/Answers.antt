use Rattle.std.proofs.Common.{◌≡◌, ◌<◌, arith, ap, sym, ◌∙◌, length, get_or}
use Rattle.std.specs.Borrow.{Bor}
use Rattle.std.proofs.lemmas.List.{get_or-map, length-map}
use Rattle.aa_pattern.specs.declared.pattern.Pattern.{Pattern}
use Rattle.aa_auto.specs.Nodes.{pointed}
use Rattle.aa_auto.proofs.PositionLemmas.{patterns_none, patterns_more, patterns_all}
use Rattle.aa_auto.proofs.positions.positions_of.Goals as goal

pub loop-pattern-init : goal.loop-pattern-init
loop-pattern-init c =
    patterns_none c.new-all.result c.new-ends.result.items c.new-all.ensures.whole c.new-all.ensures.merged c.new-all.ensures.none c.new-ends.ensures.items

pub add_items-requires-clause-source : goal.add_items-requires-clause-source
add_items-requires-clause-source c = c.in_ok-start.ensures.0

pub end-requires-clause-source : goal.end-requires-clause-source
end-requires-clause-source c = c.in_ok-last.ensures.0

pub loop-pattern-preserved : goal.loop-pattern-preserved
loop-pattern-preserved c =
    let p : Bor Pattern = c.pattern-item.result in
    let xs = c.args.patterns.now in
    let i = c.loop-pattern.pattern-index in
    let within : i < length (pointed xs) = omega (arith, c.loop-pattern-test.true, length-map xs (λ (q : Bor Pattern). q.now)) in
    let is : p.now ≡ get_or (pointed xs) i p.now = ap (λ (q : Bor Pattern). q.now) c.pattern-item.is ∙ sym
    (get_or-map (λ (q : Bor Pattern). q.now) xs i p p.now c.loop-pattern-test.true) in
    patterns_more c.loop-pattern.all c.start.new.self c.add_items.new.all c.end.new.self c.loop-pattern.ends.items c.push.new.self.items c.in_ok-start.start
    c.in_ok-last.last c.in_ok-end.field-0
    c.as_slice.result.now i (pointed xs) p.now within is c.as_slice.ensures.value c.in_ok-push.ensures.items c.loop-pattern.invariant c.in_ok-start.ensures
    c.in_ok-last.ensures c.in_ok-end.ensures

pub returns : goal.returns
returns c =
    patterns_all c.loop-pattern.all c.loop-pattern.ends.items c.loop-pattern.pattern-index (pointed c.args.patterns.now)
    (omega (arith, c.loop-pattern-test.false, length-map c.args.patterns.now (λ (q : Bor Pattern). q.now))) c.loop-pattern.invariant
