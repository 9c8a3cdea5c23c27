use Rattle.std.proofs.Common.{arith, ◌≡◌, ◌↔◌, ◌∙◌, IsTrue, get_or, subst}
use Rattle.std.proofs.lemmas.List.{get_or_default}
use Rattle.aa_auto.specs.declared.nodes.Node.{Node}
use Rattle.aa_auto.specs.declared.nodes.Node.TheVariants.{Start}
use Rattle.aa_auto.specs.Spots.{IsStart}
use Rattle.aa_auto.proofs.MoveLemmas.{starts_none, starts_more, starts_all}
use Rattle.aa_auto.proofs.moves.beginnings.Goals as goal

pub loop-position-init : goal.loop-position-init
loop-position-init c = starts_none c.args.nodes.now c.clear.new.self.items c.clear.ensures.items

pub insert_if-requires : goal.insert_if-requires
insert_if-requires c = c.loop-position.invariant.rising

pub loop-position-preserved : goal.loop-position-preserved
loop-position-preserved c =
    let e : c.index-nodes-position.result ≡ get_or c.args.nodes.now c.loop-position.position Start =
    c.index-nodes-position.is ∙ get_or_default c.args.nodes.now c.loop-position.position c.index-nodes-position.result Start c.loop-position-test.true in
    starts_more c.args.nodes.now c.loop-position.position c.loop-position.new.items c.insert_if.new.set.items c.is_start.result
    (subst (λ (n : Node). IsTrue c.is_start.result ↔ IsStart n) e c.is_start.ensures) c.loop-position.invariant c.in_ok-insert_if.ensures

pub returns : goal.returns
returns c = starts_all c.args.nodes.now c.loop-position.position c.loop-position.new.items (omega arith) c.loop-position.invariant
