use Rattle.std.proofs.Common.{arith}
use Rattle.std.proofs.lemmas.Grind.{common_steps}
use Rattle.aa_check.proofs.sarif.related_places.Goals as goal

pub loop-link-preserved : goal.loop-link-preserved
loop-link-preserved c = grind (arith, common_steps)
