use Rattle.aa_load.proofs.Adding.{joins_next, joins_all, refused_there}
use Rattle.aa_load.proofs.joined.join_all.Goals as goal

pub loop-number-preserved : goal.loop-number-preserved
loop-number-preserved c =
    joins_next c.args.all.now c.loop-number.number c.index-all-number.result _ _ c.loop-number-test.true c.index-all-number.is c.in-Ok.ensures.ok c.loop-number.invariant

pub returns-clause-joined : goal.returns-clause-joined
returns-clause-joined c = joins_all c.args.all.now c.loop-number.number _ c.loop-number-test.false c.loop-number.invariant

pub returns-in-Err-clause-cause : goal.returns-in-Err-clause-cause
returns-in-Err-clause-cause c other =
    refused_there c.args.all.now c.loop-number.number c.index-all-number.result _ _ c.loop-number-test.true c.index-all-number.is (c.in-Err.ensures.cause other) c.loop-number.invariant
