use Rattle.std.proofs.Common.{arith}
use Rattle.std.proofs.lemmas.Grind.{common_steps}
use Rattle.aa_undecided.proofs.asking.answer_each.Goals as goal

pub loop-request-preserved : goal.loop-request-preserved
loop-request-preserved c = grind (arith, common_steps)
