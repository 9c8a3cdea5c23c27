use Rattle.std.proofs.Common.{arith}
use Rattle.std.proofs.lemmas.Grind.{common_steps}
use Rattle.aa_ask.proofs.asking.push_all_profiles.Goals as goal

pub loop-compiled-preserved : goal.loop-compiled-preserved
loop-compiled-preserved c = grind (arith, common_steps)
