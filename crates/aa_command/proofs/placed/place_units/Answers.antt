use Rattle.aa_command.proofs.Placing.{unit_more, units_all}
use Rattle.aa_command.proofs.placed.place_units.Goals as goal

pub loop-unit-preserved : goal.loop-unit-preserved
loop-unit-preserved c =
    unit_more c.args.units.now c.loop-unit.unit-index c.unit-item.result _ c.loop-unit.placed.items c.push.new.self.items c.loop-unit-test.true c.unit-item.is c.in_ok-new.ensures c.in_ok-push.ensures.items c.loop-unit.invariant

pub returns : goal.returns
returns c = units_all c.args.units.now c.loop-unit.unit-index c.loop-unit.placed.items c.loop-unit-test.false c.loop-unit.invariant
