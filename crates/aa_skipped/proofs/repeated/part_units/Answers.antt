use Rattle.std.proofs.Common.{refl}
use Rattle.aa_skipped.proofs.Parting.{parted_next}
use Rattle.aa_skipped.proofs.repeated.part_units.Goals as goal

pub loop-unit-preserved : goal.loop-unit-preserved
loop-unit-preserved c =
    parted_next c.args.read.now c.args.skipped.now c.loop-unit.yielded _ c.in-Some.unit c.loop-unit.parted.units.items c.put.new.sorted.units.items
    c.loop-unit.parted.skipped.items c.put.new.sorted.skipped.items c.in_ok-found.found refl c.in_ok-put.ensures.units c.in_ok-put.ensures.skipped c.in_ok-found.ensures c.loop-unit.invariant
