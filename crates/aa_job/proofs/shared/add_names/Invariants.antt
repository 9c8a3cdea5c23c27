use Rattle.aa_job.proofs.Sharing.{Adding}
use Rattle.aa_job.proofs.shared.add_names.Given as goal

abbrev pub invariant-loop-name : goal.invariant-loop-name
invariant-loop-name l = Adding l.unit l.name-iterator l.initial.meanings.entries l.meanings.entries
