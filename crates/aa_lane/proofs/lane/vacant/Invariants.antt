use Rattle.std.proofs.Common.{◌≡◌, replicate}
use Rattle.aa_lane.specs.declared.cells.Cell.TheVariants.{Vacant}
use Rattle.aa_lane.proofs.lane.vacant.Given as goal

abbrev pub invariant-loop-i : goal.invariant-loop-i
invariant-loop-i g l = l.slots.items ≡ replicate l.i Vacant
