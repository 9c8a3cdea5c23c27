use Rattle.aa_job.proofs.Sharing.{Sharing}
use Rattle.aa_job.proofs.shared.shared_sources.Given as goal

abbrev pub invariant-loop-unit : goal.invariant-loop-unit
invariant-loop-unit l = Sharing l.units l.unit-index l.meanings.entries
