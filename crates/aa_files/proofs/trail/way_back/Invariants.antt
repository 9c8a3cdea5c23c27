use Rattle.std.proofs.Common.{◌≡◌, ◌++◌, length, reverse}
use Rattle.aa_files.specs.Trails.{way_back}
use Rattle.aa_files.proofs.trail.way_back.Given as goal

abbrev pub invariant-loop-step : goal.invariant-loop-step
invariant-loop-step l = way_back (reverse l.fn.met.items) l.node ≡ l.way.items ++ way_back (reverse l.met.items) l.at

abbrev pub decreases-loop-step : goal.decreases-loop-step
decreases-loop-step l = length l.met.items
