use Rattle.std.proofs.Common.{false, get_or}
use Rattle.std.proofs.lemmas.List.{get_or_default}
use Rattle.aa_explain.specs.declared.told.Told.{Told}
use Rattle.aa_explain.proofs.Deciding.{first_go, first_end}
use Rattle.aa_explain.proofs.deciders.first_allowing.Goals as goal

pub loop-rule-preserved : goal.loop-rule-preserved
loop-rule-preserved c =
    let d : Told = record { rule = 0; saying = record { holds = false; deny = false; perms = record { 0 = 0 } } } in
    let x : Told = get_or c.args.told.now c.loop-rule.rule-index d in
    first_go c.loop-rule.left.0 c.left_of-left.result.0 c.loop-rule.rule-index c.args.told.now x c.loop-rule.found.items c.push_any.new.found.items _ c.named_by.result c.part_of.result.0 c.loop-rule-test.true
    (get_or_default c.args.told.now c.loop-rule.rule-index d x c.loop-rule-test.true) c.part_of.ensures c.named_by.ensures c.in_ok-push_any.ensures c.left_of-left.ensures c.loop-rule.invariant

pub returns : goal.returns
returns c = first_end c.loop-rule.left.0 c.loop-rule.rule-index c.args.told.now c.loop-rule.found.items _ c.loop-rule-test.false c.loop-rule.invariant
