use Rattle.std.proofs.Common.{◌≡◌, ℕ, length, arith, sym, ap, ◌∙◌}
use Rattle.std.specs.Global.{Global}
use Rattle.std.specs.declared.vec.Vec.{Vec}
use Rattle.std.proofs.lemmas.List.{length-map}
use Rattle.aa_compile.specs.Groups.{lists, is_below}
use Rattle.aa_compile.proofs.GroupLemmas.{groups_more, below_long}
use Rattle.aa_compile.proofs.groups.groups_of.Goals as goal

pub loop-number-preserved : goal.loop-number-preserved
loop-number-preserved c =
    let old = c.loop-number.groups.items in
    let new = c.add_if_child.new.groups.items in
    let p = c.index-profiles-number.result in
    let items = λ (v : Vec ℕ Global). v.items in
    let e : lists new ≡ is_below p.parent c.loop-number.number (lists old) = c.in_ok-add_if_child.ensures in
    let long : length (lists old) ≡ length c.args.profiles.now = length-map old items ∙ c.loop-number.invariant.many in
    record {
      many = sym (length-map new items) ∙ ap length e ∙ below_long p.parent c.loop-number.number (lists old) ∙ long;
      exact = λ n lt. groups_more c.args.profiles.now c.loop-number.number p (lists old) (lists new) c.loop-number-test.true c.index-profiles-number.is e
          (λ k l. c.loop-number.invariant.exact k (omega (arith, l, long))) n (omega (arith, lt, long));
    }
