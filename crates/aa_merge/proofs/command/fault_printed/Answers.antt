use Rattle.std.proofs.lemmas.Result.{IfOk-weaker}
use Rattle.aa_merge.proofs.command.fault_printed.Goals as goal

pub returns : goal.returns
returns c = IfOk-weaker c.fault_refused.result _ _
    (λ out says. record { report = c.in_ok-report.report; is_so = c.in_ok-report.ensures; says = says }) c.fault_refused.ensures
