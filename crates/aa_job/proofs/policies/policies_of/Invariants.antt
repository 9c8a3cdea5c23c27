use Rattle.std.proofs.Common.{take}
use Rattle.aa_load.specs.UnitPolicy.{limit_of}
use Rattle.aa_job.specs.Policies.{AreJobPolicies}
use Rattle.aa_job.proofs.policies.policies_of.Given as goal

abbrev pub invariant-loop-number : goal.invariant-loop-number
invariant-loop-number l = AreJobPolicies (limit_of l.states) (take l.number l.units) l.policies.items
