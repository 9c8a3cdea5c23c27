use Rattle.std.proofs.Common.{Bool, cond, ap, ◌∙◌}
use Rattle.aa_compile.specs.Said.{said, both, nothing}
use Rattle.aa_compile.specs.FileRules.{any_sort, applies_by, saying}
use Rattle.aa_decision_tests.proofs.Holding.{verdict_more, verdict_all}
use Rattle.aa_decision_tests.proofs.plain.verdict_by_rules.Goals as goal

pub loop-rule-preserved : goal.loop-rule-preserved
loop-rule-preserved c =
    let r = c.rule-item.result in
    verdict_more (applies_by any_sort c.args.path.now c.args.owned) saying c.args.rules.now c.loop-rule.rule-index r c.loop-rule.sets _ _ c.loop-rule-test.true c.rule-item.is
    (c.with-sets.ensures ∙ ap (both c.loop-rule.sets) (c.said_if.ensures ∙ ap (λ (b : Bool). cond b (said (saying r)) nothing) c.applies-holds.ensures)) c.loop-rule.invariant

pub returns : goal.returns
returns c = verdict_all (applies_by any_sort c.args.path.now c.args.owned) saying c.args.rules.now c.loop-rule.rule-index _ _ c.loop-rule-test.false c.loop-rule.invariant
