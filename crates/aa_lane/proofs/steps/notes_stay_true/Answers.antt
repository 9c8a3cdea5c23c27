use Rattle.aa_lane.proofs.Events.{notes_stay_true}
use Rattle.aa_lane.proofs.steps.notes_stay_true.Goals as goal

pub returns : goal.returns
returns g c = notes_stay_true g.M.Machine.next g.M.Machine.reply
