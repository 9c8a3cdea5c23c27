use Rattle.std.proofs.lemmas.Grind.{common_steps}
use Rattle.std.proofs.Common.{arith, length-set}
use Rattle.aa_pattern.proofs.GapSteps.{begins_gap}
use Rattle.aa_pattern.proofs.gaps.begin.Goals as goal
use Rattle.aa_pattern.proofs.gaps.begin.Goals.{then-gaps-i, else-gaps-i}

pub loop-i-preserved : goal.loop-i-preserved
loop-i-preserved c = grind (arith, common_steps, length-set, begins_gap)
