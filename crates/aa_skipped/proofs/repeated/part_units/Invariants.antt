use Rattle.aa_skipped.specs.Repeated.{ArePartedBy}
use Rattle.aa_skipped.proofs.repeated.part_units.Given as goal

abbrev pub invariant-loop-unit : goal.invariant-loop-unit
invariant-loop-unit l = ArePartedBy l.read l.skipped l.yielded l.parted.units.items l.parted.skipped.items
