use Rattle.std.proofs.Common.{refl, subst}
use Rattle.std.proofs.lemmas.Result.{IfOk-weaker}
use Rattle.aa_faults.specs.Further.{IsRuleAtFault, NoRule, Blanked}
use Rattle.aa_faults.proofs.faults.next_fault.Goals as goal

pub returns-in-Some : goal.returns-in-Some
returns-in-Some c = IfOk-weaker c.fault_of.result _ _ (λ next first. Blanked c.in-Some.extent (subst (λ x. IsRuleAtFault c.args.unit.now c.args.fault x) c.in-Some.is c.in_ok-extent.ensures) c.blank.ensures first) c.fault_of.ensures

pub returns-in-None : goal.returns-in-None
returns-in-None c = NoRule (subst (λ x. IsRuleAtFault c.args.unit.now c.args.fault x) c.in-None.is c.in_ok-extent.ensures) refl
