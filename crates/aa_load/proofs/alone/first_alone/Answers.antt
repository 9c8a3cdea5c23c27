use Rattle.std.proofs.Common.{inl, inr}
use Rattle.aa_load.proofs.Single.{good_next, all_good, alone_there}
use Rattle.aa_load.proofs.alone.first_alone.Goals as goal

pub loop-number-preserved : goal.loop-number-preserved
loop-number-preserved c =
    good_next _ c.args.all.now c.loop-number.number c.index-all-number.result c.loop-number-test.true c.index-all-number.is c.in-Ok.ensures.good c.loop-number.invariant

pub returns-clause-none : goal.returns-clause-none
returns-clause-none c = all_good _ c.args.all.now c.loop-number.number c.loop-number-test.false c.loop-number.invariant

pub returns-in-Err-clause-first : goal.returns-in-Err-clause-first
returns-in-Err-clause-first c other =
    elim c.of_texts.ensures [
      | inl memory ↦ absurd (other memory.1)
      | inr told ↦ alone_there _ c.args.all.now c.loop-number.number c.index-all-number.result c.in-Err.fault _ c.loop-number-test.true c.index-all-number.is told.1 (c.in-Err.ensures.cause told.0) c.loop-number.invariant
    ]
