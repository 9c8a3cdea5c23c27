use Rattle.std.proofs.lemmas.Grind.{common_steps}
use Rattle.std.proofs.Common.{arith}
use Rattle.aa_check.proofs.naming.warnings_of.Goals as goal

pub loop-profile-preserved : goal.loop-profile-preserved
loop-profile-preserved c = grind (arith, common_steps)

pub returns : goal.returns
returns c = grind (arith, common_steps)
