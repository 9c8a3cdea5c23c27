use Rattle.std.proofs.Common.{drop, string_bytes}
use Rattle.aa_engine.proofs.Replaying.{Replaying}
use Rattle.aa_engine.proofs.replay.replay_output.Given as goal

abbrev pub invariant-loop-event : goal.invariant-loop-event
invariant-loop-event l = Replaying l.job.several l.policies l.job.capacity l.job.tasks l.job.events (string_bytes l.out) l.states.items (drop l.event-index l.job.events)
