use Rattle.std.proofs.lemmas.Grind.{common_steps}
use Rattle.std.proofs.Common.{arith}
use Rattle.aa_glob.specs.Expansions.{expansions}
use Rattle.aa_glob.proofs.expanding.read_alone.Goals as goal

pub returns-in-Err : goal.returns-in-Err
unfolding expansions
returns-in-Err c = grind (arith, common_steps)

pub returns : goal.returns
unfolding expansions
returns c = grind (arith, common_steps)
