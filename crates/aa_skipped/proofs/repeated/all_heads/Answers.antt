use Rattle.aa_skipped.proofs.Parting.{heads_next, heads_all}
use Rattle.aa_skipped.proofs.repeated.all_heads.Goals as goal

pub loop-unit-preserved : goal.loop-unit-preserved
loop-unit-preserved c =
    heads_next c.args.units.now c.loop-unit.unit-index c.unit-item.result c.loop-unit.read.items c.push.new.self.items c.in_ok-unread.unread
    c.loop-unit-test.true c.unit-item.is c.in_ok-push.ensures.items c.in_ok-unread.ensures c.loop-unit.invariant

pub returns : goal.returns
returns c = heads_all c.args.units.now c.loop-unit.unit-index c.loop-unit.read.items c.loop-unit-test.false c.loop-unit.invariant
