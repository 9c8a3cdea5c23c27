use Rattle.std.proofs.Common.{◌-◌, length}
use Rattle.aa_glob.specs.Built.{IsBuilding, steps_left, text_at}
use Rattle.aa_glob.proofs.building.build.Given as goal

abbrev pub invariant-loop-top : goal.invariant-loop-top
invariant-loop-top l = IsBuilding (length l.done.entries) l.vars l.done.entries l.text.items l.stack.items l.top (text_at (length l.done.entries) l.vars l.start)

abbrev pub decreases-loop-top : goal.decreases-loop-top
decreases-loop-top l = steps_left (length l.done.entries - length l.stack.items) l.vars l.stack.items l.top
