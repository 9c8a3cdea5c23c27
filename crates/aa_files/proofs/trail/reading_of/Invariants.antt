use Rattle.std.proofs.Common.{◌+◌, length}
use Rattle.aa_files.specs.Unread.{steps_left}
use Rattle.aa_files.proofs.Steps.{IsKept}
use Rattle.aa_files.proofs.trail.reading_of.Given as goal

abbrev pub invariant-loop-step : goal.invariant-loop-step
invariant-loop-step l = IsKept l.unit l.slots.items l.stack.items l.met.items

abbrev pub decreases-loop-step : goal.decreases-loop-step
decreases-loop-step l = steps_left l.slots.items + length l.stack.items
