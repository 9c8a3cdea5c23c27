use Rattle.std.proofs.Common.{Bool, false, cond, get_or, ap, ◌∙◌}
use Rattle.std.proofs.lemmas.List.{get_or_default}
use Rattle.aa_model.specs.declared.rule.NetRule.{NetRule}
use Rattle.aa_compile.specs.Said.{said, both, nothing}
use Rattle.aa_compile.specs.Holding.{net_holds}
use Rattle.aa_mediate.specs.Held.{saying}
use Rattle.aa_mediate.proofs.Holding.{verdict_more, verdict_all}
use Rattle.aa_mediate.proofs.held.verdict_of_net.Goals as goal

pub loop-rule-preserved : goal.loop-rule-preserved
loop-rule-preserved c =
    let d : NetRule = record { audit = false; deny = false; families = 0; kinds = 0 } in
    let r : NetRule = get_or c.args.rules.now c.loop-rule.rule-index d in
    verdict_more (net_holds c.args.family c.args.kind)
    (λ (r : NetRule). saying r.audit r.deny) c.args.rules.now c.loop-rule.rule-index r c.loop-rule.sets _ _ c.loop-rule-test.true
    (get_or_default c.args.rules.now c.loop-rule.rule-index d r c.loop-rule-test.true)
    (c.with-sets.ensures ∙ ap (both c.loop-rule.sets) (c.said_if.ensures ∙ ap (λ (b : Bool). cond b (said (saying r.audit r.deny)) nothing) c.holds_net-holds.ensures)) c.loop-rule.invariant

pub returns : goal.returns
returns c = verdict_all (net_holds c.args.family c.args.kind) (λ (r : NetRule). saying r.audit r.deny) c.args.rules.now c.loop-rule.rule-index _ _ c.loop-rule-test.false c.loop-rule.invariant
