use Rattle.std.proofs.Common.{ℕ, List, refl, sym, ap, ◌∙◌, get_or, length, subst, arith}
use Rattle.std.specs.Global.{Global}
use Rattle.std.specs.declared.vec.Vec.{Vec}
use Rattle.std.proofs.lemmas.List.{length-map, take_all}
use Rattle.aa_findings.specs.Places.{lists}
use Rattle.aa_findings.proofs.Indexing.{placed_more, placed_long, placed_none, Placed}
use Rattle.aa_findings.proofs.index.push_each.Goals as goal

pub loop-number-init : goal.loop-number-init
loop-number-init c = record { many = refl; each = placed_none c.args.place (lists c.args.index.now.items) }

pub loop-number-preserved : goal.loop-number-preserved
loop-number-preserved c =
    let items = λ (v : Vec ℕ Global). v.items in
    let old = c.args.index.now.items in
    let now = c.loop-number.index.items in
    let next = c.push_place.new.index.items in
    let m = get_or c.args.numbers.now c.loop-number.number-index 0 in
    let e = c.in_ok-push_place.ensures in
    record {
      many = sym (length-map next items) ∙ ap length e ∙ placed_long c.args.place m (lists now) ∙ length-map now items ∙ c.loop-number.invariant.many;
      each = placed_more c.args.place c.args.numbers.now c.loop-number.number-index m (lists old) (lists now) (lists next) c.loop-number-test.true refl
          (length-map now items ∙ c.loop-number.invariant.many ∙ sym (length-map old items)) e c.loop-number.invariant.each;
    }

pub returns-clause-each : goal.returns-clause-each
returns-clause-each c = λ n lt apart.
    let items = λ (v : Vec ℕ Global). v.items in
    let old = c.args.index.now.items in
    let all = subst (λ (z : List ℕ). Placed c.args.place z (lists old) (lists c.loop-number.index.items)) (take_all c.loop-number.number-index c.args.numbers.now (omega arith)) c.loop-number.invariant.each in
    let long = length-map old items in
    all n (omega (arith, lt, long)) apart
