use Rattle.std.proofs.Common.{map, take}
use Rattle.aa_job.specs.Jobs.{AreIncludes}
use Rattle.aa_job.proofs.job.includes_of.Given as goal

abbrev pub invariant-loop-source : goal.invariant-loop-source
invariant-loop-source l = AreIncludes (map (λ s. s.now) (take l.source-index l.sources)) l.includes.items
