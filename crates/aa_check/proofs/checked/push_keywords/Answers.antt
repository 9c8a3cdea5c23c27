use Rattle.std.proofs.lemmas.Grind.{common_steps}
use Rattle.std.proofs.Common.{arith}
use Rattle.aa_check.proofs.checked.push_keywords.Goals as goal

pub loop-passed-preserved : goal.loop-passed-preserved
loop-passed-preserved c = grind (arith, common_steps)

pub returns : goal.returns
returns c = grind (arith, common_steps)
