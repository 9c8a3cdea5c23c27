use Rattle.std.proofs.Common.{arith}
use Rattle.std.proofs.lemmas.Grind.{common_steps}
use Rattle.aa_ask.proofs.unattached.all_matches.Goals as goal

pub loop-profile-preserved : goal.loop-profile-preserved
loop-profile-preserved c = grind (arith, common_steps)
