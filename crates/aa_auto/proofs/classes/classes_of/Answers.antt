use Rattle.std.proofs.lemmas.Grind.{common_steps}
use Rattle.std.proofs.Common.{rules, subst, sym, ◌∙◌, true≢false, false, arith}
use Rattle.aa_auto.specs.declared.classes.Classes.{Classes}
use Rattle.aa_auto.specs.Division.{AreAlone, AreClasses}
use Rattle.aa_auto.proofs.DivisionLemmas.{if_ok, classes_more, alone_more, numbered}
use Rattle.aa_auto.proofs.classes.classes_of.Goals as goal

pub loop-node-init : goal.loop-node-init
loop-node-init c = record {
  classes = search rules;
  many = c.in_ok-alone.ensures.many;
  alone = λ a b la lb flag. absurd (true≢false (sym flag ∙ c.in_ok-alone.ensures.none a false (omega (arith, la, c.in_ok-alone.ensures.many))));
}

pub refined-requires-clause-alone : goal.refined-requires-clause-alone
refined-requires-clause-alone c = subst (AreAlone c.loop-node.classes.of.items) (sym c.as_slice-in-loop-node.ensures.value) c.loop-node.invariant.alone

pub loop-node-preserved : goal.loop-node-preserved
loop-node-preserved c = record {
  classes = classes_more c.args.nodes.now c.loop-node.node-index c.node-item.result c.loop-node.classes.of.items c.loop-node.classes.bytes.items c.in_ok-classes-2.classes.of.items c.in_ok-classes-2.classes.bytes.items
      c.loop-node-test.true c.node-item.is c.loop-node.invariant.classes c.in_ok-classes-2.ensures;
  many = c.note_alone.ensures.many ∙ c.loop-node.invariant.many;
  alone = alone_more c.node-item.result c.loop-node.classes.of.items c.in_ok-classes-2.classes.of.items c.in_ok-classes-2.classes.bytes.items c.loop-node.alone.items c.note_alone.new.alone.items
      c.loop-node.invariant.alone c.in_ok-classes-2.ensures c.note_alone.ensures;
}

pub returns : goal.returns
returns c =
    let whole : AreClasses c.args.nodes.now c.loop-node.classes.of.items c.loop-node.classes.bytes.items = grind (arith, common_steps) in
    if_ok c.in_order.result
    (λ (new : Classes) all. numbered c.args.nodes.now c.as_slice-2.result.now c.loop-node.classes.of.items c.loop-node.classes.bytes.items new.of.items new.bytes.items c.as_slice-2.ensures.value whole all)
    c.in_order.ensures
