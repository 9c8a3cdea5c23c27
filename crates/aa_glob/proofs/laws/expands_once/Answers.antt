use Rattle.std.proofs.Common.{arith}
use Rattle.std.proofs.lemmas.Grind.{common_steps}
use Rattle.aa_glob.proofs.Depths.{expands_once}
use Rattle.aa_glob.proofs.laws.expands_once.Goals as goal

pub returns : goal.returns
returns c = grind (arith, common_steps, expands_once)
