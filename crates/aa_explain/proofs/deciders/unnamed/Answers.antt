use Rattle.std.proofs.Common.{false, get_or}
use Rattle.std.proofs.lemmas.List.{get_or_default}
use Rattle.aa_explain.specs.declared.told.Told.{Told}
use Rattle.aa_explain.proofs.Deciding.{unnamed_go, unnamed_end}
use Rattle.aa_explain.proofs.deciders.unnamed.Goals as goal

pub loop-rule-preserved : goal.loop-rule-preserved
loop-rule-preserved c =
    let d : Told = record { rule = 0; saying = record { holds = false; deny = false; perms = record { 0 = 0 } } } in
    let x : Told = get_or c.args.told.now c.loop-rule.rule-index d in
    unnamed_go c.args.deny c.loop-rule.left.0 c.left_of-left.result.0 c.loop-rule.rule-index c.args.told.now x c.part_of.result.0 _ c.loop-rule-test.true
    (get_or_default c.args.told.now c.loop-rule.rule-index d x c.loop-rule-test.true) c.part_of.ensures c.left_of-left.ensures c.loop-rule.invariant

pub returns : goal.returns
returns c = unnamed_end c.args.deny c.loop-rule.left.0 c.loop-rule.rule-index c.args.told.now _ c.loop-rule-test.false c.loop-rule.invariant
