use Rattle.std.proofs.Common.{arith}
use Rattle.std.proofs.lemmas.Grind.{common_steps}
use Rattle.aa_check.proofs.sarif.notes_of.Goals as goal

pub loop-untold-preserved : goal.loop-untold-preserved
loop-untold-preserved c = grind (arith, common_steps)
