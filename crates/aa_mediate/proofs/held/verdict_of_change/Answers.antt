use Rattle.std.proofs.Common.{Bool, cond, ap, ◌∙◌}
use Rattle.aa_model.specs.declared.rule.ChangeRule.{ChangeRule}
use Rattle.aa_compile.specs.Said.{said, both, nothing}
use Rattle.aa_compile.specs.Holding.{change_holds}
use Rattle.aa_mediate.specs.Held.{saying}
use Rattle.aa_mediate.proofs.Holding.{verdict_more, verdict_all}
use Rattle.aa_mediate.proofs.held.verdict_of_change.Goals as goal

pub loop-rule-preserved : goal.loop-rule-preserved
loop-rule-preserved c =
    let r = c.rule-item.result in
    verdict_more (change_holds c.args.name.now) (λ (r : ChangeRule). saying r.audit r.deny) c.args.rules.now c.loop-rule.rule-index r c.loop-rule.sets _ _ c.loop-rule-test.true c.rule-item.is
    (c.with-sets.ensures ∙ ap (both c.loop-rule.sets) (c.said_if.ensures ∙ ap (λ (b : Bool). cond b (said (saying r.audit r.deny)) nothing) c.holds_change-holds.ensures)) c.loop-rule.invariant

pub returns : goal.returns
returns c = verdict_all (change_holds c.args.name.now) (λ (r : ChangeRule). saying r.audit r.deny) c.args.rules.now c.loop-rule.rule-index _ _ c.loop-rule-test.false c.loop-rule.invariant
