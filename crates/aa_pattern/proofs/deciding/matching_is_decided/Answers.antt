use Rattle.std.proofs.lemmas.Grind.{common_steps}
use Rattle.std.proofs.Common.{arith}
use Rattle.aa_pattern.proofs.Decided.{decided}
use Rattle.aa_pattern.proofs.deciding.matching_is_decided.Goals as goal

pub returns : goal.returns
returns c = grind (arith, common_steps, decided)
