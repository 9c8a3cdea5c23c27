use Rattle.std.proofs.Common.{take}
use Rattle.aa_command.specs.Policies.{AreGathered}
use Rattle.aa_command.proofs.policy.gather.Given as goal

abbrev pub invariant-loop-unit : goal.invariant-loop-unit
invariant-loop-unit l = AreGathered (take l.unit-index l.units) l.gathered.items
