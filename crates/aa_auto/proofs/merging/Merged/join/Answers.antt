use Rattle.std.proofs.Common.{arith, subst}
use Rattle.aa_auto.specs.Merged.{IsJoin}
use Rattle.aa_auto.proofs.MergeLemmas.{join_there, join_added}
use Rattle.aa_auto.proofs.merging.Merged.join.Goals as goal

pub returns-in-Some : goal.returns-in-Some
returns-in-Some c =
    join_there c.args.self.now c.count.new.self c.args.ends.items c.in-Some.old c.requires.whole c.in_ok-count.ensures
    (subst (λ z. IsJoin c.count.new.self.nodes.items c.in-Some.old z) c.as_slice-2.ensures.value c.in-Some.ensures)

pub returns : goal.returns
returns c =
    let p = c.in_ok-push.ensures in
    join_added c.args.self.now c.count.new.self _ c.args.ends c.len-new.result c.requires.whole c.in_ok-count.ensures
    (omega (arith, c.len-new.ensures, c.count.new.self.nodes.ok)) p.nodes p.firsts p.many
