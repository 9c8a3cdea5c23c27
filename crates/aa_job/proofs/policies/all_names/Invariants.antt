use Rattle.std.proofs.Common.{take}
use Rattle.aa_load.specs.UnitPolicy.{limit_of}
use Rattle.aa_job.specs.Policies.{HaveNames}
use Rattle.aa_job.proofs.policies.all_names.Given as goal

abbrev pub invariant-loop-unit : goal.invariant-loop-unit
invariant-loop-unit l = HaveNames (limit_of l.states) (take l.unit-index l.units) l.all.items
