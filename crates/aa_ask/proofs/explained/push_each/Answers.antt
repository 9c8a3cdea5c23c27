use Rattle.std.proofs.Common.{arith}
use Rattle.std.proofs.lemmas.Grind.{common_steps}
use Rattle.aa_ask.proofs.explained.push_each.Goals as goal

pub loop-decider-preserved : goal.loop-decider-preserved
loop-decider-preserved c = grind (arith, common_steps)
