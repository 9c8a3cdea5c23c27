use Rattle.aa_engine.specs.Engines.{IsCheckOutput}
use Rattle.aa_library.proofs.Whole.{answered}
use Rattle.aa_library.proofs.aamediate_check.Goals as goal

pub returns-clause-answered : goal.returns-clause-answered
returns-clause-answered c = answered IsCheckOutput _ _ _ _ _ _ _ _ c.check_bytes-made.ensures.text c.check_bytes-made.ensures.cause c.answer.ensures
