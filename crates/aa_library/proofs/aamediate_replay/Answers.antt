use Rattle.aa_engine.specs.Engines.{IsReplayOutput}
use Rattle.aa_library.proofs.Whole.{answered}
use Rattle.aa_library.proofs.aamediate_replay.Goals as goal

pub returns-clause-answered : goal.returns-clause-answered
returns-clause-answered c = answered IsReplayOutput _ _ _ _ _ _ _ _ c.replay_bytes-made.ensures.text c.replay_bytes-made.ensures.cause c.answer.ensures
