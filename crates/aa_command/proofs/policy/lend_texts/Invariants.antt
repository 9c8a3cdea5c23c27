use Rattle.std.proofs.Common.{take}
use Rattle.aa_command.specs.Policies.{AreTextsOf}
use Rattle.aa_command.proofs.policy.lend_texts.Given as goal

abbrev pub invariant-loop-number : goal.invariant-loop-number
invariant-loop-number l = AreTextsOf (take l.number l.units) l.texts.items
