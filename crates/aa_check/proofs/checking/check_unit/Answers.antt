use Rattle.std.proofs.lemmas.Result.{IfOk-weaker}
use Rattle.aa_check.specs.Checked.{Accepted, Refused}
use Rattle.aa_check.proofs.checking.check_unit.Goals as goal

pub returns-in-Ok-clause-found : goal.returns-in-Ok-clause-found
returns-in-Ok-clause-found c = IfOk-weaker c.count_unit.result _ _ (λ f counted. Accepted c.in-Ok.compiled c.in-Ok.ensures.compiled counted.0 counted.1 counted.2 counted.3) c.count_unit.ensures.counted

pub returns-in-Err-clause-found : goal.returns-in-Err-clause-found
returns-in-Err-clause-found c =
    IfOk-weaker c.refuse_unit.result _ _ (λ f told. Refused c.in-Err.fault told.1.0 (c.in-Err.ensures.cause told.0) told.1.1 told.1.2 told.2 told.3) c.refuse_unit.ensures.told
