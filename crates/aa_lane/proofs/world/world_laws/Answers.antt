use Rattle.aa_lane.proofs.WorldLaws.{world_laws}
use Rattle.aa_lane.proofs.world.world_laws.Goals as goal

pub returns : goal.returns
returns g c = world_laws g.M.Machine.next g.M.Machine.reply
