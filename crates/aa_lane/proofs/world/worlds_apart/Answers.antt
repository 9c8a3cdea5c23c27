use Rattle.aa_lane.proofs.Worlds.{worlds_apart}
use Rattle.aa_lane.proofs.world.worlds_apart.Goals as goal

pub returns : goal.returns
returns g c = worlds_apart g.M.Machine.next g.M.Machine.reply
