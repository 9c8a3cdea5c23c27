use Rattle.std.proofs.Common.{sym, subst}
use Rattle.std.specs.Prelude.{IfOk, IfErr}
use Rattle.aa_load.specs.UnitPolicy.{limit_of}
use Rattle.aa_claims.specs.Faults.{SaysAt}
use Rattle.aa_assert.specs.declared.asked.Asked.{Asked}
use Rattle.aa_assert.specs.declared.finding.Findings.{Findings}
use Rattle.aa_assert.specs.Findings.{all_found, IsFoundAt}
use Rattle.aa_assert.specs.Refused.{AsksNoPath}
use Rattle.aa_assert.proofs.finding.found_at.Goals as goal

pub returns-in-Never-clause-found : goal.returns-in-Never-clause-found
returns-in-Never-clause-found c =
    let k = c.args.claim in
    subst (λ (a : Asked). IfOk c.found_of.result (λ (fs : Findings). IsFoundAt c.args.part (limit_of k.states) a k.word.now.text.items c.args.label
    (all_found fs)))
    (sym c.in-Never.is) c.found_of.ensures.found

pub returns-in-Never-clause-refused : goal.returns-in-Never-clause-refused
returns-in-Never-clause-refused c =
    subst (λ (a : Asked). IfErr c.found_of.result (SaysAt (AsksNoPath c.args.claim.word.now a))) (sym c.in-Never.is) c.found_of.ensures.refused

pub returns-in-Always-clause-found : goal.returns-in-Always-clause-found
returns-in-Always-clause-found c =
    let k = c.args.claim in
    subst (λ (a : Asked). IfOk c.found_of-in-Always.result
    (λ (fs : Findings). IsFoundAt c.args.part (limit_of k.states) a k.word.now.text.items c.args.label (all_found fs)))
    (sym c.in-Always.is) c.found_of-in-Always.ensures.found

pub returns-in-Always-clause-refused : goal.returns-in-Always-clause-refused
returns-in-Always-clause-refused c =
    subst (λ (a : Asked). IfErr c.found_of-in-Always.result (SaysAt (AsksNoPath c.args.claim.word.now a)))
    (sym c.in-Always.is) c.found_of-in-Always.ensures.refused

pub returns-in-Leads-clause-found : goal.returns-in-Leads-clause-found
returns-in-Leads-clause-found c =
    let k = c.args.claim in
    subst (λ (a : Asked). IfOk c.found_of-in-Leads.result
    (λ (fs : Findings). IsFoundAt c.args.part (limit_of k.states) a k.word.now.text.items c.args.label (all_found fs)))
    (sym c.in-Leads.is) c.found_of-in-Leads.ensures.found

pub returns-in-Leads-clause-refused : goal.returns-in-Leads-clause-refused
returns-in-Leads-clause-refused c =
    subst (λ (a : Asked). IfErr c.found_of-in-Leads.result (SaysAt (AsksNoPath c.args.claim.word.now a)))
    (sym c.in-Leads.is) c.found_of-in-Leads.ensures.refused
