use Rattle.std.proofs.Common.{Bool, false, cond, get_or, ap, ◌∙◌}
use Rattle.std.proofs.lemmas.List.{get_or_default}
use Rattle.aa_model.specs.declared.rule.CapRule.{CapRule}
use Rattle.aa_compile.specs.Said.{said, both, nothing}
use Rattle.aa_compile.specs.Holding.{cap_holds}
use Rattle.aa_mediate.specs.Held.{saying}
use Rattle.aa_mediate.proofs.Holding.{verdict_more, verdict_all}
use Rattle.aa_mediate.proofs.held.verdict_of_cap.Goals as goal

pub loop-rule-preserved : goal.loop-rule-preserved
loop-rule-preserved c =
    let d : CapRule = record { audit = false; deny = false; caps = record { 0 = 0 } } in
    let r : CapRule = get_or c.args.rules.now c.loop-rule.rule-index d in
    verdict_more (cap_holds c.args.cap)
    (λ (r : CapRule). saying r.audit r.deny) c.args.rules.now c.loop-rule.rule-index r c.loop-rule.sets _ _ c.loop-rule-test.true
    (get_or_default c.args.rules.now c.loop-rule.rule-index d r c.loop-rule-test.true)
    (c.with-sets.ensures ∙ ap (both c.loop-rule.sets) (c.said_if.ensures ∙ ap (λ (b : Bool). cond b (said (saying r.audit r.deny)) nothing) c.holds_cap-holds.ensures)) c.loop-rule.invariant

pub returns : goal.returns
returns c = verdict_all (cap_holds c.args.cap) (λ (r : CapRule). saying r.audit r.deny) c.args.rules.now c.loop-rule.rule-index _ _ c.loop-rule-test.false c.loop-rule.invariant
