use Rattle.std.proofs.Common.{◌<◌, Vec, Global, arith, length, subst, sym}
use Rattle.aa_auto.specs.declared.nodes.Node.{Node}
use Rattle.aa_auto.proofs.MergeLemmas.{whole_from, behind_there, behind_added}
use Rattle.aa_auto.proofs.merging.Merged.after.Goals as goal

pub returns-in-Some : goal.returns-in-Some
returns-in-Some c =
    behind_there c.args.self.now c.count.new.self c.args.source c.in-Some.old c.args.item.now c.requires.whole c.requires.simple c.in_ok-count.ensures
    c.in-Some.ensures

pub go_to-requires-clause-whole : goal.go_to-requires-clause-whole
go_to-requires-clause-whole c =
    let k = c.in_ok-count.ensures in
    whole_from c.args.self.now c.count.new.self c.requires.whole k.nodes k.firsts

pub go_to-requires-clause-source : goal.go_to-requires-clause-source
go_to-requires-clause-source c =
    let k = c.in_ok-count.ensures in
    subst (λ (v : Vec Node Global). c.args.source < length v.items) (sym k.nodes) c.requires.source

pub returns : goal.returns
returns c =
    let p = c.in_ok-push.ensures in
    behind_added c.args.self.now c.count.new.self c.go_to.new.self _ c.args.source c.len-new.result c.args.item c.requires.whole c.requires.simple
    c.requires.source c.in_ok-count.ensures
    c.in_ok-go_to.ensures (omega (arith, c.len-new.ensures, c.go_to.new.self.nodes.ok)) p.nodes p.firsts p.many
