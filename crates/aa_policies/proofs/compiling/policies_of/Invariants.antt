use Rattle.std.proofs.Common.{take}
use Rattle.aa_policies.specs.Policies.{ArePoliciesOf}
use Rattle.aa_policies.proofs.compiling.policies_of.Given as goal

abbrev pub invariant-loop-number : goal.invariant-loop-number
invariant-loop-number l = ArePoliciesOf l.sources l.limit (take l.number l.texts) l.policies.items
