use Rattle.aa_lane.proofs.Logs.{log_laws}
use Rattle.aa_lane.proofs.steps.log_laws.Goals as goal

pub returns : goal.returns
returns g c = log_laws g.M.Machine.next g.M.Machine.reply
