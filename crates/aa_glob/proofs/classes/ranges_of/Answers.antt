use Rattle.std.proofs.lemmas.Grind.{common_steps}
use Rattle.std.proofs.Common.{rules}
use Rattle.std.proofs.Common.{arith}
use Rattle.aa_glob.proofs.ClassSteps.{range_next, one_next, ranges_done}
use Rattle.aa_glob.proofs.classes.ranges_of.Goals as goal
use Rattle.aa_glob.proofs.classes.ranges_of.Goals.{else-body-at-gt2-via-then-body-at-gt2+else-makes_range, else-body-at-gt2-via-else-body-at-gt2}

pub loop-at-preserved-then-makes_range : goal.loop-at-preserved-then-makes_range
loop-at-preserved-then-makes_range c = grind (arith, common_steps, range_next)

pub loop-at-preserved : goal.loop-at-preserved
loop-at-preserved c = grind (arith, common_steps, one_next)

pub returns : goal.returns
returns c = search (rules, ranges_done)
