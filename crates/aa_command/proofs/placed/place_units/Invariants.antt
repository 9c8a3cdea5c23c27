use Rattle.std.proofs.Common.{◌≡◌, take}
use Rattle.aa_command.proofs.placed.place_units.Given as goal

abbrev pub invariant-loop-unit : goal.invariant-loop-unit
invariant-loop-unit l = l.placed.items ≡ take l.unit-index l.units
