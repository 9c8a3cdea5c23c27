use Rattle.std.proofs.Common.{◌∙◌, sym}
use Rattle.std.proofs.lemmas.Result.{IfOk-weaker}
use Rattle.aa_faults.specs.Further.{Placed}
use Rattle.aa_faults.proofs.faults.rule_at_fault.Goals as goal

pub returns : goal.returns
returns c = IfOk-weaker c.extent_at.result _ _ (λ extent at. Placed (sym c.has_place.ensures ∙ c.if-not-has_place.false) at) c.extent_at.ensures
