use Rattle.std.proofs.lemmas.Result.{IfOk-weaker}
use Rattle.aa_command.specs.Printed.{printed}
use Rattle.aa_merge.proofs.Merged.{says_so}
use Rattle.aa_merge.proofs.command.refused_printed.Goals as goal

pub returns-in_default : goal.returns-in_default
returns-in_default c = IfOk-weaker c.fault_printed.result _ _
    (λ out says. says_so c.args.path.now c.args.fault (printed out) c.in_default.not-NoMemory c.in_default.not-TooMany says) c.fault_printed.ensures
