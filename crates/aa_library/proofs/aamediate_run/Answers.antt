use Rattle.aa_engine.specs.Engines.{IsRunOutput}
use Rattle.aa_library.proofs.Whole.{answered}
use Rattle.aa_library.proofs.aamediate_run.Goals as goal

pub returns-clause-answered : goal.returns-clause-answered
returns-clause-answered c = answered IsRunOutput _ _ _ _ _ _ _ _ c.run_bytes-made.ensures.text c.run_bytes-made.ensures.cause c.answer.ensures
