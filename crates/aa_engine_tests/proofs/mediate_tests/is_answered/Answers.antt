use denote.Param.Send.{sendable}
use Rattle.std.proofs.Crossing.{crosses}
use Rattle.aa_mediate.proofs.Shared.{mediator_sync}
use Rattle.aa_engine_tests.proofs.mediate_tests.is_answered.Goals as goal

pub answers-given-requires-sync-M : goal.answers-given-requires-sync-M
answers-given-requires-sync-M g c κs within = search (mediator_sync, sendable, crosses) depth 20
