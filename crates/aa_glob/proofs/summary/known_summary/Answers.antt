use Rattle.std.proofs.Common.{arith}
use Rattle.std.proofs.lemmas.Grind.{common_steps}
use Rattle.aa_glob.proofs.Tables.{told}
use Rattle.aa_glob.proofs.summary.known_summary.Goals as goal

pub unreachable-requires : goal.unreachable-requires
unreachable-requires c = grind (arith, common_steps, told)

pub returns : goal.returns
returns c = grind (arith, common_steps, told)
