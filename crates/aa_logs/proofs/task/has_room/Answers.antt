use Rattle.std.proofs.Common.{sym, ◌∙◌}
use Rattle.aa_logs.proofs.Placed.{room_behind}
use Rattle.aa_logs.proofs.task.has_room.Goals as goal

pub returns-in-None : goal.returns-in-None
returns-in-None c = λ r e. room_behind r c.args.tasks.now (sym e ∙ c.in-None.is)
