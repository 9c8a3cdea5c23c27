use denote.Param.Send.{sendable}
use Rattle.std.proofs.Crossing.{crosses}
use Rattle.aa_mediate.proofs.Shared.{mediator_sync}
use Rattle.aa_engine_tests.proofs.gate_tests.granted_by.Goals as goal

pub answers-told-requires-sync-M : goal.answers-told-requires-sync-M
answers-told-requires-sync-M g c κs within = search (mediator_sync, sendable, crosses) depth 20
